-- Two parts that are well typed one after another can be run one after another.
use Rattle.std.proofs.Common.{◌≡◌, true, false, List, [], ◌∷◌}
use Rattle.std.specs.Prelude.{IsTrue}
use Rattle.std.proofs.lemmas.Bool.{and_parts}
use Rattle.guest_state.specs.declared.virtual_state.Virtual.{Virtual}
use Rattle.ir_syntax.specs.declared.block.Part.{Part}
use Rattle.ir_syntax.specs.Typed.{unwritten, are_typed, is_end_typed, is_end_right, is_part_typed, are_parts_typed, types_after_all, types_after_end, types_after_part}
use Rattle.ir_meaning.specs.Ready.{Fits, IsReady, IsReadyUnder}
use Rattle.ir_meaning.proofs.ReadyLemmas.{unwritten_fits}

pub first_under : (p q : Part) (v : Virtual) → IsTrue (are_parts_typed unwritten (p ∷ q ∷ [])) → IsReadyUnder unwritten p v
first_under p q v typed =
    let both = and_parts (is_part_typed false unwritten p) (are_parts_typed (types_after_part unwritten p) (q ∷ [])) typed in
    let lines = and_parts (are_typed unwritten p.ops) (is_end_right false (types_after_all unwritten p.ops) p.end) both.0 in
    let ends = and_parts (is_end_typed (types_after_all unwritten p.ops) p.end) _ lines.1 in
    record { lines = lines.0; end = ends.0; fits = unwritten_fits v.temps }

pub second_ready : (p q : Part) (v : Virtual) → IsTrue (are_parts_typed unwritten (p ∷ q ∷ [])) → Fits (types_after_part unwritten p) v.temps → IsReady q v
second_ready p q v typed fits =
    let types = types_after_part unwritten p in
    let both = and_parts (is_part_typed false unwritten p) (are_parts_typed types (q ∷ [])) typed in
    let last = and_parts (is_part_typed true types q) (are_parts_typed types []) both.1 in
    let lines = and_parts (are_typed types q.ops) (is_end_right true (types_after_all types q.ops) q.end) last.0 in
    let ends = and_parts (is_end_typed (types_after_all types q.ops) q.end) _ lines.1 in
    (types, record { lines = lines.0; end = ends.0; fits = fits })
