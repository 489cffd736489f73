use Rattle.std.proofs.Common.{◌≡◌, ℕ, ◌+◌, List, length, drop, get_or, arith, sym, ap, subst, ◌∙◌, ◌∷◌, [], ◌++◌}
use Rattle.std.proofs.lemmas.List.{drop_more, drop_all, length-append}
use Rattle.guest_gen.specs.declared.line.Line.TheVariants.{Label}
use Rattle.guest_gen.specs.Spelling.{SpellsLine, label_after}
use Rattle.guest_gen.proofs.Lines.{Rest, rest_init, rest_more, rest_end, most_left, can_left, label_behind}
use Rattle.guest_gen.proofs.assembling.assembled.Goals as goal

pub spelling-requires-clause-low : goal.spelling-requires-clause-low
spelling-requires-clause-low c =
    let i = c.loop-line.line-index in
    let left = most_left c.args.lines.now i (get_or c.args.lines.now i Label) (drop (i + 1) c.args.lines.now) (drop_more c.args.lines.now i Label c.loop-line-test.true) in
    omega (arith, left, c.loop-line.invariant.short, c.requires.low, c.len.ensures)

pub spelling-requires-clause-can : goal.spelling-requires-clause-can
spelling-requires-clause-can c =
    let i = c.loop-line.line-index in
    (can_left c.args.lines.now i (get_or c.args.lines.now i Label) (drop (i + 1) c.args.lines.now) (drop_more c.args.lines.now i Label c.loop-line-test.true) c.loop-line.invariant.can).0

pub loop-line-init : goal.loop-line-init
loop-line-init c =
    let none : length c.new-bytes.result.items ≡ 0 = ap length c.new-bytes.ensures.items in
    record {
      spelled = rest_init c.args.start c.args.lines.now c.new-bytes.result.items c.new-bytes.ensures.items;
      behind = omega arith;
      short = omega (arith, none);
      can = c.requires.can;
    }

pub loop-line-preserved : goal.loop-line-preserved
loop-line-preserved c =
    let lines = c.args.lines.now in
    let i = c.loop-line.line-index in
    let line = get_or lines i Label in
    let left = drop (i + 1) lines in
    let inv = c.loop-line.invariant in
    let split : drop i lines ≡ line ∷ left = drop_more lines i Label c.loop-line-test.true in
    let old = c.loop-line.bytes.items in
    let new = c.extend_from_slice.new.self.items in
    let s = c.in_ok-spelled.spelled.items in
    let at : c.args.start + c.len.result ≡ c.args.start + length old = omega (arith, c.len.ensures, c.loop-line.bytes.ok) in
    let spelled : SpellsLine c.loop-line.label (c.args.start + length old + length s) line s = subst (λ (n : ℕ). SpellsLine c.loop-line.label (n + length s) line s) at c.in_ok-spelled.ensures.spells in
    let joined : new ≡ old ++ s = c.in_ok-extend_from_slice.ensures.items ∙ ap (λ (x : List ℕ). old ++ x) c.deref.ensures.value in
    let label : c.label_after-label.result ≡ label_after c.loop-line.label (c.args.start + length old) line = c.label_after-label.ensures ∙ ap (λ (n : ℕ). label_after c.loop-line.label n line) at in
    let behind = label_behind c.loop-line.label (c.args.start + length old) line inv.behind in
    let size : length new ≡ length old + length s = ap length joined ∙ length-append old s in
    record {
      spelled = subst (λ (l : ℕ). Rest c.args.start lines l new left) (sym label) (rest_more c.args.start lines c.loop-line.label old line left s new (subst (Rest c.args.start lines c.loop-line.label old) split inv.spelled) spelled joined);
      behind = omega (arith, label, behind, size);
      short = omega (arith, most_left lines i line left split, inv.short, size, c.in_ok-spelled.ensures.short);
      can = (can_left lines i line left split inv.can).1;
    }

pub returns-clause-spelled : goal.returns-clause-spelled
returns-clause-spelled c =
    let start = c.args.start in
    let lines = c.args.lines.now in
    let label = c.loop-line.label in
    let bytes = c.loop-line.bytes.items in
    let none : drop c.loop-line.line-index lines ≡ [] = drop_all c.loop-line.line-index lines c.loop-line-test.false in
    rest_end start lines label bytes (subst (Rest start lines label bytes) none c.loop-line.invariant.spelled)
