use Rattle.std.proofs.Common.{◌≡◌, ◌-◌, ℕ, length, take, sym, subst, ◌∙◌}
use Rattle.ir_text.specs.Faults.{IsBehind}
use Rattle.ir_text.proofs.PlaceLemmas.{one_text_of, one_place, never_place}
use Rattle.ir_text.proofs.reading.parse_bytes.Goals as goal

pub returns-in-Ok-clause-only : goal.returns-in-Ok-clause-only
returns-in-Ok-clause-only c = λ blocks h e. one_text_of c.in-Ok.found.items blocks c.in-Ok.ensures.0 h (sym c.in-Ok.ensures.1 ∙ e)

pub returns-in-Ok-clause-refused : goal.returns-in-Ok-clause-refused
returns-in-Ok-clause-refused c = λ n place. never_place c.args.bytes.now n c.in-Ok.found.items c.in-Ok.ensures.0 c.in-Ok.ensures.1 place

pub returns-in-Err-Left-clause-only : goal.returns-in-Err-Left-clause-only
returns-in-Err-Left-clause-only c = λ blocks h e.
    let known = rw c.in-Err-Left.field-0-is at c.in-Err-Left.ensures in
    never_place c.args.bytes.now (length c.args.bytes.now - c.in-Err-Left.left) blocks h e known.1

pub returns-in-Err-Left-clause-refused : goal.returns-in-Err-Left-clause-refused
returns-in-Err-Left-clause-refused c = λ n place.
    let bytes = c.args.bytes.now in
    let known = rw c.in-Err-Left.field-0-is at c.in-Err-Left.ensures in
    let same : n ≡ length bytes - c.in-Err-Left.left = one_place bytes n (length bytes - c.in-Err-Left.left) place known.1 in
    subst (λ (k : ℕ). IsBehind (take k bytes) c.behind.result) (sym same) c.behind.ensures
