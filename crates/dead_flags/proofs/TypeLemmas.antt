-- A well typed block stays well typed without its dead puts, which write no temporary.
use Rattle.std.proofs.Common.{◌≡◌, ℕ, suc, ◌<◌, Bool, true, false, ap, sym, subst, refl, ◌∙◌, List, [], ◌∷◌, length}
use Rattle.std.proofs.lemmas.Bool.{and_parts, and_from}
use Rattle.std.specs.Prelude.{if◌then◌else◌}
use Rattle.ir_syntax.specs.declared.block.Block.{Block}
use Rattle.ir_syntax.specs.declared.block.Part.{Part}
use Rattle.ir_syntax.specs.declared.line.Op.{Op}
use Rattle.ir_syntax.specs.declared.line.Op.TheVariants.{Get, GetHigh, Put, PutHigh, Const, Ea, Calc, FlagOf, FlagZero, Cond, Pick, Zext, Sext, Cut}
use Rattle.ir_syntax.specs.Typed.{Types, is_typed, types_after, are_typed, types_after_all, is_end_right, is_part_typed, types_after_end, is_empty, are_parts_typed, IsWellTyped, unwritten}
use Rattle.x86_flags.specs.declared.flags.Flags.{Flags}
use Rattle.ir_meaning.specs.Live.{live_before_end, live_before_ops, live_before_parts, is_dead, kept_ops, kept_parts}

dead_types : (o : Op) (live : Flags) (types : Types) → is_dead o live ≡ true → types_after types o ≡ types
dead_types (Get w t r) live types e = absurd (cc)
dead_types (GetHigh t r) live types e = absurd (cc)
dead_types (Put w r t) live types e = refl
dead_types (PutHigh r t) live types e = refl
dead_types (Const w t n) live types e = absurd (cc)
dead_types (Ea t base index scale n) live types e = absurd (cc)
dead_types (Calc family w t a b) live types e = absurd (cc)
dead_types (FlagOf flag family w a b) live types e = refl
dead_types (FlagZero flag) live types e = refl
dead_types (Cond t c) live types e = absurd (cc)
dead_types (Pick w t c a b) live types e = absurd (cc)
dead_types (Zext from w t a) live types e = absurd (cc)
dead_types (Sext from w t a) live types e = absurd (cc)
dead_types (Cut from w t a) live types e = absurd (cc)

-- lines in place of others: typed where those are, and with the same types after them
record StaysTyped (os ks : List Op) : Type 0 where
  typed : (types : Types) → are_typed types os ≡ true → are_typed types ks ≡ true
  after : (types : Types) → types_after_all types ks ≡ types_after_all types os

line_typed : (dead : Bool) (o : Op) (os ks : List Op) (live : Flags) → is_dead o live ≡ dead → StaysTyped os ks → StaysTyped (o ∷ os) (if dead then ks else o ∷ ks)
line_typed true o os ks live e rest = record {
  typed = λ types h. rest.typed types (subst (λ (t : Types). are_typed t os ≡ true) (dead_types o live types e) (and_parts (is_typed types o) _ h).1);
  after = λ types. rest.after types ∙ ap (λ (t : Types). types_after_all t os) (sym (dead_types o live types e));
}
line_typed false o os ks live e rest = record {
  typed = λ types h. let p = and_parts (is_typed types o) _ h in and_from (is_typed types o) _ p.0 (rest.typed (types_after types o) p.1);
  after = λ types. rest.after (types_after types o);
}

ops_typed : (os : List Op) (live : Flags) → StaysTyped os (kept_ops os live)
ops_typed [] live = record { typed = λ types h. h; after = λ types. refl }
ops_typed (o ∷ os) live = line_typed (is_dead o (live_before_ops os live)) o os (kept_ops os live) (live_before_ops os live) refl (ops_typed os live)

same_emptiness : (ps : List Part) → is_empty (kept_parts ps) ≡ is_empty ps
same_emptiness [] = refl
same_emptiness (p ∷ ps) = refl

same_length : (ps : List Part) → length (kept_parts ps) ≡ length ps
same_length [] = refl
same_length (p ∷ ps) = ap suc (same_length ps)

parts_typed : (ps : List Part) (types : Types) → are_parts_typed types ps ≡ true → are_parts_typed types (kept_parts ps) ≡ true
parts_typed [] types h = h
parts_typed (p ∷ ps) types h =
    let live = live_before_end p.end (live_before_parts ps) in
    let stays = ops_typed p.ops live in
    let both = and_parts (is_part_typed (is_empty ps) types p) _ h in
    let lines = and_parts (are_typed types p.ops) _ both.0 in
    let after = sym (stays.after types) in
    let ends = subst (λ (t : Types). is_end_right (is_empty ps) t p.end ≡ true) after lines.1 in
    let last = subst (λ (b : Bool). is_end_right b (types_after_all types (kept_ops p.ops live)) p.end ≡ true) (sym (same_emptiness ps)) ends in
    and_from _ _
    (and_from (are_typed types (kept_ops p.ops live)) _ (stays.typed types lines.0) last)
    (parts_typed ps _ (subst (λ (t : Types). are_parts_typed (types_after_end t p.end) ps ≡ true) after both.1))

pub strip_typed : (block : Block) → IsWellTyped block → IsWellTyped (record block { parts = kept_parts block.parts })
strip_typed block h = (subst (λ (n : ℕ). 0 < n) (sym (same_length block.parts)) h.0, parts_typed block.parts unwritten h.1)
