use Rattle.std.proofs.Common.{◌≡◌, Option, Some, None, Bor, option_map, refl, ap, sym, ◌∙◌}
use Rattle.std.specs.Option.{option_copied}
use Rattle.std.specs.FinMap as map
use Rattle.cfg_book.proofs.Entries.{get-shown}
use Rattle.cfg_book.proofs.book.Book.find.Goals as goal

-- a value is shown through the reference to it
through : {A X : Type 0} (v : A → X) (r : Option (Bor A)) → option_map (λ b. v b.now) r ≡ option_map v (option_copied r)
through v None = refl
through v (Some x) = refl

pub returns : goal.returns
returns g c =
    through (λ b. b.value) c.get.result ∙ ap (option_map (λ b. b.value)) c.get.ensures.value ∙ sym (get-shown (λ b. b.value) c.self.inside.blocks.entries c.args.a)
    ∙ ap (λ w. map.get w.blocks c.args.a) c.self.view_is
