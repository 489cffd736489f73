-- Bytes that are the text of blocks that are well typed are nothing else, and wrong nowhere.
use Rattle.std.proofs.Common.{◌≡◌, ℕ, ◌<◌, Bool, true, false, List, [], ◌∷◌, ◌++◌, length, All, Option, Some, None, Result, Ok, Err, IfOk, IfErr, IfSome, Vec, sym, ap, subst, ◌∙◌, arith, length-append, inl, inr}
use Rattle.std.proofs.Math.Seq.{get_or-append_seam}
use Rattle.std.specs.FinMap.{get}
use Rattle.std.specs.declared.alloc.Global.{Global}
use Rattle.ir_syntax.specs.declared.block.Block.{Block}
use Rattle.ir_syntax.specs.declared.block.Part.{Part}
use Rattle.ir_syntax.specs.declared.typing.TypeFault.{TypeFault}
use Rattle.ir_syntax.specs.Typed.{IsFault, IsWellTyped, are_parts_typed, unwritten}
use Rattle.ir_syntax.proofs.PartLemmas.{untyped}
use Rattle.ir_text.specs.declared.fault.TextFault.{TextFault}
use Rattle.ir_text.proofs.PlaceLemmas.{never_place, one_text_of}
use Rattle.mx_outside.specs.Names.{NameMap}
use Rattle.ir_file.specs.declared.fault.IrFault.{IrFault}
use Rattle.ir_file.specs.declared.fault.IrFault.TheVariants.{Absent, Memory, ReadFault, Text, TooLong}
use Rattle.ir_file.specs.Blocks.{AreBlocksIn, AreBlocksOf, AreGiven, HoldsBlocks, IsFaultIn, IsTextFault, RefusesBlocks, text_limit}
use Rattle.ir_file.specs.Untyped.{IsUntyped}

pub one_reading : (bytes : List ℕ) (a b : List Block) → AreBlocksOf bytes a → AreBlocksOf bytes b → a ≡ b
one_reading bytes a b x y = one_text_of a b x.have y.have (sym x.text ∙ y.text)

-- a block with a fault isn't well typed
not_typed : (b : Block) (fault : TypeFault) → IsFault b.parts fault → IsWellTyped b → ⊥
not_typed b fault wrong typed = by b.parts wrong typed.0 typed.1
  where
    differ : (t : Bool) → t ≡ false → t ≡ true → ⊥
    differ true e f = cc
    differ false e f = cc

    by : (ps : List Part) → IsFault ps fault → 0 < length ps → are_parts_typed unwritten ps ≡ true → ⊥
    by [] w some t = omega (arith, some)
    by (p ∷ ps) w some t = differ (are_parts_typed unwritten (p ∷ ps)) (untyped unwritten (p ∷ ps) fault.part fault.op w) t

-- one of the blocks isn't well typed
not_all_typed : (blocks : List Block) (line : ℕ) → IsUntyped blocks line → All IsWellTyped blocks → ⊥
not_all_typed blocks line u typed =
    let all : All IsWellTyped (u.before ++ u.block ∷ u.after) = subst (All IsWellTyped) u.are typed in
    let there : length u.before < length (u.before ++ u.block ∷ u.after) = omega (arith, length-append u.before (u.block ∷ u.after)) in
    not_typed u.block u.fault u.wrong (subst IsWellTyped (get_or-append_seam u.before u.block u.after u.block) (all (length u.before) u.block there))

pub never_wrong : (bytes : List ℕ) (blocks : List Block) (fault : TextFault) → AreBlocksOf bytes blocks → IsTextFault bytes fault → ⊥
never_wrong bytes blocks fault x (inl n) = never_place bytes n.at blocks x.have x.text n.place
never_wrong bytes blocks fault x (inr w) = not_all_typed w.blocks fault.line w.untyped (subst (All IsWellTyped) (one_text_of blocks w.blocks x.have w.have (sym x.text ∙ w.text)) x.typed)

-- a file has one content
one_content : (f : Option (List ℕ)) (a b : List ℕ) → f ≡ Some a → f ≡ Some b → a ≡ b
one_content None a b d e = absurd (cc)
one_content (Some c) a b d e = cc

given_is : (names : Option NameMap) (name : List ℕ) (blocks found : List Block) → HoldsBlocks names name blocks → AreBlocksIn names name found → found ≡ blocks
given_is None name blocks found h x = absurd h.file
given_is (Some m) name blocks found h x =
    let same : x.bytes ≡ h.bytes = one_content (get m name) x.bytes h.bytes x.file h.file in
    one_reading h.bytes found blocks (subst (λ (z : List ℕ). AreBlocksOf z found) same x.are) h.are

never_absent : (names : Option NameMap) (name : List ℕ) (blocks : List Block) → HoldsBlocks names name blocks → IfSome names (λ m. get m name ≡ None) → ⊥
never_absent None name blocks h x = h.file
never_absent (Some m) name blocks h x = by (get m name) x h.file
  where
    by : (f : Option (List ℕ)) → f ≡ None → f ≡ Some h.bytes → ⊥
    by None d e = cc
    by (Some c) d e = cc

never_long : (names : Option NameMap) (name : List ℕ) (blocks : List Block) → HoldsBlocks names name blocks → IfSome names (λ m. (bytes : List ℕ) × (get m name ≡ Some bytes) × (text_limit < length bytes)) → ⊥
never_long None name blocks h x = h.file
never_long (Some m) name blocks h x =
    let same : x.0 ≡ h.bytes = one_content (get m name) x.0 h.bytes x.1 h.file in
    omega (arith, ap length same, x.2, h.within)

never_faulty : (names : Option NameMap) (name : List ℕ) (blocks : List Block) (fault : TextFault) → HoldsBlocks names name blocks → IsFaultIn names name fault → ⊥
never_faulty None name blocks fault h x = h.file
never_faulty (Some m) name blocks fault h x =
    let same : x.bytes ≡ h.bytes = one_content (get m name) x.bytes h.bytes x.file h.file in
    never_wrong h.bytes blocks fault h.are (subst (λ (z : List ℕ). IsTextFault z fault) same x.wrong)

-- what the file holds is given, unless reading fails or memory runs out
pub all_given : (names : Option NameMap) (name : List ℕ) (before now : ℕ) (result : Result (Vec Block Global) IrFault)
    → IfOk result (λ v. AreBlocksIn names name v.items) → IfErr result (RefusesBlocks names name before now) → (blocks : List Block) → HoldsBlocks names name blocks → AreGiven blocks result
all_given names name before now (Ok v) found refused blocks h = given_is names name blocks v.items h found
all_given names name before now (Err ReadFault) found refused blocks h = tt
all_given names name before now (Err Absent) found refused blocks h = never_absent names name blocks h refused.1
all_given names name before now (Err TooLong) found refused blocks h = never_long names name blocks h refused.1
all_given names name before now (Err (Text f)) found refused blocks h = never_faulty names name blocks f h refused.1
all_given names name before now (Err (Memory e)) found refused blocks h = tt
