use Rattle.std.proofs.Common.{◌≡◌, Option, Some, None, Bor, refl, ap, sym, ◌∙◌}
use Rattle.std.specs.Option.{option_copied, option_map}
use Rattle.std.specs.FinMap as map
use Rattle.sync_more.proofs.TableLemmas.{get-other, get-same, over, over-none, over-some}
use Rattle.sync_more.proofs.TreeLemmas.{get-tree}
use Rattle.sync_more.proofs.table.Table.find.Goals as goal
use Rattle.sync_more.proofs.table.Table.find.Goals.{in-Some+else-key-k, in_default}

through : {V : Type 0} (r : Option (Bor V)) → option_map (λ v. v.now) r ≡ option_copied r
through None = refl
through (Some v) = refl

pub returns-then-key-k : goal.returns-then-key-k
returns-then-key-k g c =
    let es = c.self.inside.tree.entries in
    sym (get-same (map.from_entries es) c.in-Some.key c.args.k c.in-Some.v c.if-key-k.true)
    ∙ sym (ap (λ m. map.get m c.args.k) (over-some c.self.inside.last es c.in-Some.key c.in-Some.v c.in-Some.is))
    ∙ ap (λ w. map.get w.places c.args.k) c.self.view_is

pub returns : goal.returns
returns g c =
    let es = c.self.inside.tree.entries in
    let last = c.self.inside.last in
    let beneath : map.get (map.from_entries es) c.args.k ≡ map.get (over last es) c.args.k = elim c.match-self.branch [
      | in-Some+else-key-k w ↦ sym (get-other (map.from_entries es) w.in-Some.key c.args.k w.in-Some.v w.if-key-k.false) ∙ sym (ap (λ m. map.get m c.args.k) (over-some last es w.in-Some.key w.in-Some.v w.in-Some.is))
      | in_default w ↦ sym (ap (λ m. map.get m c.args.k) (over-none last es w.in_default.is))
    ] in
    through c.get.result ∙ c.get.ensures.value ∙ sym (get-tree es c.args.k) ∙ beneath ∙ ap (λ w. map.get w.places c.args.k) c.self.view_is
