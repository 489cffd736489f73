-- Typed parts, one after another.
use Rattle.std.proofs.Common.{◌≡◌, ℕ, ◌^◌, ◌<◌, true, false, ◌&&◌, List, ◌∷◌, refl, sym, subst}
use Rattle.std.proofs.lemmas.Bool.{and_parts, ltb-true}
use Rattle.guest_state.specs.declared.virtual_state.Virtual.{Virtual}
use Rattle.ir_meaning.specs.Does.{answered, does}
use Rattle.ir_meaning.specs.Ready.{Answers, Fits, IsReady, IsReadyUnder}
use Rattle.ir_meaning.proofs.ReadyLemmas.{answered_fits, part_fits, unwritten_fits}
use Rattle.ir_syntax.specs.declared.block.Block.{Block}
use Rattle.ir_syntax.specs.declared.block.Part.{Part}
use Rattle.ir_syntax.specs.declared.line.PartEnd.{PartEnd}
use Rattle.ir_syntax.specs.declared.line.PartEnd.TheVariants.{Tick, Load, Store, StoreGo, Fence, Locked, LockedCmpxchg, Divide, Go, Branch, BadCode}
use Rattle.ir_syntax.specs.Typed.{IsWellTyped, Types, are_parts_typed, are_typed, holds, is_empty, is_end_right, is_end_typed, is_part_typed, is_temp, types_after_all, types_after_end, types_after_part, unwritten}
use Rattle.ir_syntax.specs.Width.{bits_of}
use Rattle.lift_table.specs.Faithful.{answer_bits, takes_answer}
use Rattle.guest_parts.specs.Standing.{IsTyped}

-- the first of typed parts
record First (p : Part) (ps : List Part) (v : Virtual) (h : IsTyped (p ∷ ps) v) : Type 0 where
  pub ready : IsReadyUnder h.types p v
  pub rest : are_parts_typed (types_after_part h.types p) ps ≡ true

first : (p : Part) (ps : List Part) (v : Virtual) (h : IsTyped (p ∷ ps) v) → First p ps v h
first p ps v h =
    let all = and_parts (is_part_typed (is_empty ps) h.types p) (are_parts_typed (types_after_part h.types p) ps) h.lines in
    let one = and_parts (are_typed h.types p.ops) (is_end_right (is_empty ps) (types_after_all h.types p.ops) p.end) all.0 in
    let end = and_parts (is_end_typed (types_after_all h.types p.ops) p.end) _ one.1 in
    record { ready = record { lines = one.0; end = end.0; fits = h.fits }; rest = all.1 }

-- it can be run
pub ready : (p : Part) (ps : List Part) (v : Virtual) → IsTyped (p ∷ ps) v → IsReady p v
ready p ps v h = (h.types, (first p ps v h).ready)

types_stay : (end : PartEnd) (types : Types) → takes_answer end ≡ false → types_after_end types end ≡ types
types_stay Tick types e = refl
types_stay (Load w t a) types e = absurd cc
types_stay (Store w a t) types e = refl
types_stay (StoreGo a t to) types e = refl
types_stay Fence types e = refl
types_stay (Locked kind w t a s) types e = absurd cc
types_stay (LockedCmpxchg w t a c s) types e = absurd cc
types_stay (Divide signed w t) types e = refl
types_stay (Go to) types e = refl
types_stay (Branch c taken other) types e = refl
types_stay BadCode types e = refl

-- the rest is typed after a part that takes no answer
pub typed_on : (p : Part) (ps : List Part) (v : Virtual) → takes_answer p.end ≡ false → IsTyped (p ∷ ps) v → IsTyped ps (does p v).state
typed_on p ps v e h =
    let f = first p ps v h in
    record {
      types = types_after_part h.types p;
      lines = f.rest;
      fits = subst (λ types. Fits types (does p v).state.temps) (sym (types_stay p.end (types_after_all h.types p.ops) e)) (part_fits h.types p v f.ready);
    }

-- and after its answer
pub typed_answered : (p : Part) (ps : List Part) (v : Virtual) (x : ℕ) → Answers p.end x → IsTyped (p ∷ ps) v → IsTyped ps (answered p.end x (does p v).state)
typed_answered p ps v x a h =
    let f = first p ps v h in
    record {
      types = types_after_part h.types p;
      lines = f.rest;
      fits = answered_fits p.end (types_after_all h.types p.ops) (does p v).state x a (part_fits h.types p v f.ready);
    }

takes : (end : PartEnd) (types : Types) (x : ℕ) → takes_answer end ≡ true → is_end_typed types end ≡ true → x < 2 ^ answer_bits end → Answers end x
takes (Load w t a) types x e h lt = (ltb-true t 8 (and_parts (is_temp t) (holds types a 64) h).0, lt)
takes (Locked kind w t a s) types x e h lt = (ltb-true t 8 (and_parts (is_temp t) (holds types a 64) (and_parts (is_temp t && holds types a 64) (holds types s (bits_of w)) h).0).0, lt)
takes (LockedCmpxchg w t a c s) types x e h lt =
    let p = and_parts (is_temp t && holds types a 64 && holds types c (bits_of w)) (holds types s (bits_of w)) h in
    let q = and_parts (is_temp t && holds types a 64) (holds types c (bits_of w)) p.0 in
    (ltb-true t 8 (and_parts (is_temp t) (holds types a 64) q.0).0, lt)
takes Tick types x e h lt = absurd cc
takes (Store w a t) types x e h lt = absurd cc
takes (StoreGo a t to) types x e h lt = absurd cc
takes Fence types x e h lt = absurd cc
takes (Divide signed w t) types x e h lt = absurd cc
takes (Go to) types x e h lt = absurd cc
takes (Branch c taken other) types x e h lt = absurd cc
takes BadCode types x e h lt = absurd cc

-- a number of as many bits as the part takes is an answer to it
pub part_takes : (p : Part) (ps : List Part) (v : Virtual) (x : ℕ) → takes_answer p.end ≡ true → IsTyped (p ∷ ps) v → x < 2 ^ answer_bits p.end → Answers p.end x
part_takes p ps v x e h lt = takes p.end (types_after_all h.types p.ops) x e (first p ps v h).ready.end lt

-- the parts of a well typed block are typed, whatever the temporaries hold
pub block_typed : (b : Block) (v : Virtual) → IsWellTyped b → IsTyped b.parts v
block_typed b v h = record { types = unwritten; lines = h.1; fits = unwritten_fits v.temps }
