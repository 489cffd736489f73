-- The derived `==` of lines decides whether they are the same.
use Rattle.std.proofs.Common.{◌≡◌, ℕ, Bool, true, false, ◌&&◌, ◌==◌, List, [], ◌∷◌, Option, Some, None, get_or, ap, sym, ◌∙◌, refl}
use Rattle.std.specs.Bool.{Decides}
use Rattle.std.specs.Cmp.{booleans_Decides}
use Rattle.std.proofs.lemmas.Bool.Decides.{Decides-eqb}
use denote.Enum.Declared.{tag_of}
use Rattle.ir_syntax.specs.declared.width.Width.{Width}
use Rattle.ir_syntax.specs.declared.width.Width.TheVariants.{W8, W16, W32, W64}
use Rattle.ir_syntax.specs.contracts.width.Width.{the_type as width_type}
use Rattle.ir_syntax.specs.contracts.width.WidthPartialEq.TheImpl.{ghosts as width}
use Rattle.ir_syntax.specs.declared.cond.Flag.{Flag}
use Rattle.ir_syntax.specs.declared.cond.Flag.TheVariants.{Cf, Pf, Zf, Sf, Of}
use Rattle.ir_syntax.specs.contracts.cond.Flag.{the_type as flag_type}
use Rattle.ir_syntax.specs.contracts.cond.FlagPartialEq.TheImpl.{ghosts as flag}
use Rattle.ir_syntax.specs.declared.cond.Cond.{Cond as Condition}
use Rattle.ir_syntax.specs.declared.cond.Cond.TheVariants.{O as c_O, No as c_No, B as c_B, Ae as c_Ae, E as c_E, Ne as c_Ne, Be as c_Be, A as c_A, S as c_S, Ns as c_Ns, P as c_P, Np as c_Np, L as c_L, Ge as c_Ge, Le as c_Le, G as c_G}
use Rattle.ir_syntax.specs.contracts.cond.Cond.{the_type as cond_type}
use Rattle.ir_syntax.specs.contracts.cond.CondPartialEq.TheImpl.{ghosts as cond}
use Rattle.ir_syntax.specs.declared.line.Family.{Family}
use Rattle.ir_syntax.specs.declared.line.Family.TheVariants.{Add as f_Add, Adc as f_Adc, Sub as f_Sub, Sbb as f_Sbb, And as f_And, Or as f_Or, Xor as f_Xor, Shl as f_Shl, Shr as f_Shr, Sar as f_Sar, Rol as f_Rol, Ror as f_Ror, Mul as f_Mul, Umulh as f_Umulh, Smulh as f_Smulh, Umul as f_Umul, Smul as f_Smul, Inc as f_Inc, Dec as f_Dec, Neg as f_Neg, Not as f_Not}
use Rattle.ir_syntax.specs.contracts.line.Family.{the_type as family_type}
use Rattle.ir_syntax.specs.contracts.line.FamilyPartialEq.TheImpl.{ghosts as family}
use Rattle.ir_syntax.specs.declared.line.LockOp.{LockOp}
use Rattle.ir_syntax.specs.declared.line.LockOp.TheVariants.{Xchg as l_Xchg, Add as l_Add, Sub as l_Sub, And as l_And, Or as l_Or, Xor as l_Xor}
use Rattle.ir_syntax.specs.contracts.line.LockOp.{the_type as lockop_type}
use Rattle.ir_syntax.specs.contracts.line.LockOpPartialEq.TheImpl.{ghosts as lockop}
use Rattle.ir_syntax.specs.declared.line.Target.{Target}
use Rattle.ir_syntax.specs.declared.line.Target.TheVariants.{Place, Temp}
use Rattle.ir_syntax.specs.contracts.line.TargetPartialEq.TheImpl.{ghosts as target}
use Rattle.ir_syntax.specs.declared.line.Op.{Op}
use Rattle.ir_syntax.specs.declared.line.Op.TheVariants.{Get, GetHigh, Put, PutHigh, Const, Ea, Calc, FlagOf, FlagZero, Cond, Pick, Zext, Sext, Cut}
use Rattle.ir_syntax.specs.contracts.line.OpPartialEq.TheImpl.{ghosts as op}
use Rattle.ir_syntax.specs.declared.line.PartEnd.{PartEnd}
use Rattle.ir_syntax.specs.declared.line.PartEnd.TheVariants.{Tick, Load, Store, StoreGo, Fence, Locked, LockedCmpxchg, Divide, Go, Branch, BadCode}
use Rattle.ir_syntax.specs.contracts.line.PartEndPartialEq.TheImpl.{ghosts as end}
use Rattle.std.specs.Option.{option_eq}
use Rattle.std.specs.Prelude.{nat_eq}
use Rattle.ir_syntax.specs.declared.block.Part.{Part}
use Rattle.ir_syntax.specs.declared.block.Block.{Block}
use Rattle.ir_syntax.specs.contracts.block.PartPartialEq.TheImpl.{ghosts as part}
use Rattle.ir_syntax.specs.contracts.block.BlockPartialEq.TheImpl.{ghosts as block}
use Rattle.std.proofs.lemmas.Slice.Eq.{slice_eq-Decides}

-- two tests decide two facts
both : {P Q : Type 0} (a b : Bool) → Decides a P → Decides b Q → Decides (a && b) (P × Q)
both true b p q = (λ t. (p.0 refl, q.0 t), λ e. q.1 e.1)
both false b p q = (λ t. cc, λ e. p.1 e.0)

-- the same fact in other words
same : {P Q : Type 0} (a : Bool) → (P → Q) → (Q → P) → Decides a P → Decides a Q
same a f g p = (λ t. f (p.0 t), λ q. p.1 (g q))

sure : {P : Type 0} → P → Decides true P
sure p = (λ t. p, λ q. refl)

apart : {P : Type 0} → (P → ⊥) → Decides false P
apart f = (λ t. cc, λ p. absurd (f p))

-- a table that gives each value back by its number
numbered : {X : Type 0} (all : List X) (d : X) (number : X → ℕ) → ((x : X) → get_or all (number x) d ≡ x) → (x y : X) → Decides (number x == number y) (x ≡ y)
numbered all d number back x y =
    same (number x == number y) (λ e. sym (back x) ∙ ap (λ n. get_or all n d) e ∙ back y) (λ e. ap number e) (Decides-eqb (number x) (number y))

abbrev width_table : List Width
width_table = W8 ∷ W16 ∷ W32 ∷ W64 ∷ []

width_back : (x : Width) → get_or width_table (tag_of width_type x) W8 ≡ x
width_back W8 = refl
width_back W16 = refl
width_back W32 = refl
width_back W64 = refl

width_same : (x y : Width) → Decides (width.eq x y) (x ≡ y)
width_same = numbered width_table W8 (tag_of width_type) width_back

abbrev flag_table : List Flag
flag_table = Cf ∷ Pf ∷ Zf ∷ Sf ∷ Of ∷ []

flag_back : (x : Flag) → get_or flag_table (tag_of flag_type x) Cf ≡ x
flag_back Cf = refl
flag_back Pf = refl
flag_back Zf = refl
flag_back Sf = refl
flag_back Of = refl

flag_same : (x y : Flag) → Decides (flag.eq x y) (x ≡ y)
flag_same = numbered flag_table Cf (tag_of flag_type) flag_back

abbrev cond_table : List Condition
cond_table = c_O ∷ c_No ∷ c_B ∷ c_Ae ∷ c_E ∷ c_Ne ∷ c_Be ∷ c_A ∷ c_S ∷ c_Ns ∷ c_P ∷ c_Np ∷ c_L ∷ c_Ge ∷ c_Le ∷ c_G ∷ []

cond_back : (x : Condition) → get_or cond_table (tag_of cond_type x) c_O ≡ x
cond_back c_O = refl
cond_back c_No = refl
cond_back c_B = refl
cond_back c_Ae = refl
cond_back c_E = refl
cond_back c_Ne = refl
cond_back c_Be = refl
cond_back c_A = refl
cond_back c_S = refl
cond_back c_Ns = refl
cond_back c_P = refl
cond_back c_Np = refl
cond_back c_L = refl
cond_back c_Ge = refl
cond_back c_Le = refl
cond_back c_G = refl

cond_same : (x y : Condition) → Decides (cond.eq x y) (x ≡ y)
cond_same = numbered cond_table c_O (tag_of cond_type) cond_back

abbrev family_table : List Family
family_table = f_Add ∷ f_Adc ∷ f_Sub ∷ f_Sbb ∷ f_And ∷ f_Or ∷ f_Xor ∷ f_Shl ∷ f_Shr ∷ f_Sar ∷ f_Rol ∷ f_Ror ∷ f_Mul ∷ f_Umulh ∷ f_Smulh ∷ f_Umul ∷ f_Smul ∷ f_Inc ∷ f_Dec ∷ f_Neg ∷ f_Not ∷ []

family_back : (x : Family) → get_or family_table (tag_of family_type x) f_Add ≡ x
family_back f_Add = refl
family_back f_Adc = refl
family_back f_Sub = refl
family_back f_Sbb = refl
family_back f_And = refl
family_back f_Or = refl
family_back f_Xor = refl
family_back f_Shl = refl
family_back f_Shr = refl
family_back f_Sar = refl
family_back f_Rol = refl
family_back f_Ror = refl
family_back f_Mul = refl
family_back f_Umulh = refl
family_back f_Smulh = refl
family_back f_Umul = refl
family_back f_Smul = refl
family_back f_Inc = refl
family_back f_Dec = refl
family_back f_Neg = refl
family_back f_Not = refl

family_same : (x y : Family) → Decides (family.eq x y) (x ≡ y)
family_same = numbered family_table f_Add (tag_of family_type) family_back

abbrev lockop_table : List LockOp
lockop_table = l_Xchg ∷ l_Add ∷ l_Sub ∷ l_And ∷ l_Or ∷ l_Xor ∷ []

lockop_back : (x : LockOp) → get_or lockop_table (tag_of lockop_type x) l_Xchg ≡ x
lockop_back l_Xchg = refl
lockop_back l_Add = refl
lockop_back l_Sub = refl
lockop_back l_And = refl
lockop_back l_Or = refl
lockop_back l_Xor = refl

lockop_same : (x y : LockOp) → Decides (lockop.eq x y) (x ≡ y)
lockop_same = numbered lockop_table l_Xchg (tag_of lockop_type) lockop_back

option_same : (x y : Option ℕ) → Decides (option_eq nat_eq x y) (x ≡ y)
option_same None None = sure refl
option_same None (Some b) = apart (λ e. cc)
option_same (Some a) None = apart (λ e. cc)
option_same (Some a) (Some b) = same _ (λ e. ap Some e) (λ e. cc) (Decides-eqb a b)

pub target_same : (x y : Target) → Decides (target.eq x y) (x ≡ y)
target_same (Place a0) (Place b0) = same _ (λ p. cc) (λ e. (cc)) (Decides-eqb a0 b0)
target_same (Place a0) y = apart (λ e. cc)
target_same (Temp a0) (Temp b0) = same _ (λ p. cc) (λ e. (cc)) (Decides-eqb a0 b0)
target_same (Temp a0) y = apart (λ e. cc)

pub op_same : (x y : Op) → Decides (op.eq x y) (x ≡ y)
op_same (Get a0 a1 a2) (Get b0 b1 b2) = same _ (λ p. cc) (λ e. (cc, (cc, (cc)))) (both _ _ (width_same a0 b0) (both _ _ (Decides-eqb a1 b1) (Decides-eqb a2 b2)))
op_same (Get a0 a1 a2) y = apart (λ e. cc)
op_same (GetHigh a0 a1) (GetHigh b0 b1) = same _ (λ p. cc) (λ e. (cc, (cc))) (both _ _ (Decides-eqb a0 b0) (Decides-eqb a1 b1))
op_same (GetHigh a0 a1) y = apart (λ e. cc)
op_same (Put a0 a1 a2) (Put b0 b1 b2) = same _ (λ p. cc) (λ e. (cc, (cc, (cc)))) (both _ _ (width_same a0 b0) (both _ _ (Decides-eqb a1 b1) (Decides-eqb a2 b2)))
op_same (Put a0 a1 a2) y = apart (λ e. cc)
op_same (PutHigh a0 a1) (PutHigh b0 b1) = same _ (λ p. cc) (λ e. (cc, (cc))) (both _ _ (Decides-eqb a0 b0) (Decides-eqb a1 b1))
op_same (PutHigh a0 a1) y = apart (λ e. cc)
op_same (Const a0 a1 a2) (Const b0 b1 b2) = same _ (λ p. cc) (λ e. (cc, (cc, (cc)))) (both _ _ (width_same a0 b0) (both _ _ (Decides-eqb a1 b1) (Decides-eqb a2 b2)))
op_same (Const a0 a1 a2) y = apart (λ e. cc)
op_same (Ea a0 a1 a2 a3 a4) (Ea b0 b1 b2 b3 b4) = same _ (λ p. cc) (λ e. (cc, (cc, (cc, (cc, (cc)))))) (both _ _ (Decides-eqb a0 b0) (both _ _ (option_same a1 b1) (both _ _ (option_same a2 b2) (both _ _ (Decides-eqb a3 b3) (Decides-eqb a4 b4)))))
op_same (Ea a0 a1 a2 a3 a4) y = apart (λ e. cc)
op_same (Calc a0 a1 a2 a3 a4) (Calc b0 b1 b2 b3 b4) = same _ (λ p. cc) (λ e. (cc, (cc, (cc, (cc, (cc)))))) (both _ _ (family_same a0 b0) (both _ _ (width_same a1 b1) (both _ _ (Decides-eqb a2 b2) (both _ _ (Decides-eqb a3 b3) (option_same a4 b4)))))
op_same (Calc a0 a1 a2 a3 a4) y = apart (λ e. cc)
op_same (FlagOf a0 a1 a2 a3 a4) (FlagOf b0 b1 b2 b3 b4) = same _ (λ p. cc) (λ e. (cc, (cc, (cc, (cc, (cc)))))) (both _ _ (flag_same a0 b0) (both _ _ (family_same a1 b1) (both _ _ (width_same a2 b2) (both _ _ (Decides-eqb a3 b3) (option_same a4 b4)))))
op_same (FlagOf a0 a1 a2 a3 a4) y = apart (λ e. cc)
op_same (FlagZero a0) (FlagZero b0) = same _ (λ p. cc) (λ e. (cc)) (flag_same a0 b0)
op_same (FlagZero a0) y = apart (λ e. cc)
op_same (Cond a0 a1) (Cond b0 b1) = same _ (λ p. cc) (λ e. (cc, (cc))) (both _ _ (Decides-eqb a0 b0) (cond_same a1 b1))
op_same (Cond a0 a1) y = apart (λ e. cc)
op_same (Pick a0 a1 a2 a3 a4) (Pick b0 b1 b2 b3 b4) = same _ (λ p. cc) (λ e. (cc, (cc, (cc, (cc, (cc)))))) (both _ _ (width_same a0 b0) (both _ _ (Decides-eqb a1 b1) (both _ _ (Decides-eqb a2 b2) (both _ _ (Decides-eqb a3 b3) (Decides-eqb a4 b4)))))
op_same (Pick a0 a1 a2 a3 a4) y = apart (λ e. cc)
op_same (Zext a0 a1 a2 a3) (Zext b0 b1 b2 b3) = same _ (λ p. cc) (λ e. (cc, (cc, (cc, (cc))))) (both _ _ (Decides-eqb a0 b0) (both _ _ (width_same a1 b1) (both _ _ (Decides-eqb a2 b2) (Decides-eqb a3 b3))))
op_same (Zext a0 a1 a2 a3) y = apart (λ e. cc)
op_same (Sext a0 a1 a2 a3) (Sext b0 b1 b2 b3) = same _ (λ p. cc) (λ e. (cc, (cc, (cc, (cc))))) (both _ _ (Decides-eqb a0 b0) (both _ _ (width_same a1 b1) (both _ _ (Decides-eqb a2 b2) (Decides-eqb a3 b3))))
op_same (Sext a0 a1 a2 a3) y = apart (λ e. cc)
op_same (Cut a0 a1 a2 a3) (Cut b0 b1 b2 b3) = same _ (λ p. cc) (λ e. (cc, (cc, (cc, (cc))))) (both _ _ (Decides-eqb a0 b0) (both _ _ (width_same a1 b1) (both _ _ (Decides-eqb a2 b2) (Decides-eqb a3 b3))))
op_same (Cut a0 a1 a2 a3) y = apart (λ e. cc)

pub end_same : (x y : PartEnd) → Decides (end.eq x y) (x ≡ y)
end_same Tick Tick = sure refl
end_same Tick y = apart (λ e. cc)
end_same (Load a0 a1 a2) (Load b0 b1 b2) = same _ (λ p. cc) (λ e. (cc, (cc, (cc)))) (both _ _ (width_same a0 b0) (both _ _ (Decides-eqb a1 b1) (Decides-eqb a2 b2)))
end_same (Load a0 a1 a2) y = apart (λ e. cc)
end_same (Store a0 a1 a2) (Store b0 b1 b2) = same _ (λ p. cc) (λ e. (cc, (cc, (cc)))) (both _ _ (width_same a0 b0) (both _ _ (Decides-eqb a1 b1) (Decides-eqb a2 b2)))
end_same (Store a0 a1 a2) y = apart (λ e. cc)
end_same (StoreGo a0 a1 a2) (StoreGo b0 b1 b2) = same _ (λ p. cc) (λ e. (cc, (cc, (cc)))) (both _ _ (Decides-eqb a0 b0) (both _ _ (Decides-eqb a1 b1) (target_same a2 b2)))
end_same (StoreGo a0 a1 a2) y = apart (λ e. cc)
end_same Fence Fence = sure refl
end_same Fence y = apart (λ e. cc)
end_same (Locked a0 a1 a2 a3 a4) (Locked b0 b1 b2 b3 b4) = same _ (λ p. cc) (λ e. (cc, (cc, (cc, (cc, (cc)))))) (both _ _ (lockop_same a0 b0) (both _ _ (width_same a1 b1) (both _ _ (Decides-eqb a2 b2) (both _ _ (Decides-eqb a3 b3) (Decides-eqb a4 b4)))))
end_same (Locked a0 a1 a2 a3 a4) y = apart (λ e. cc)
end_same (LockedCmpxchg a0 a1 a2 a3 a4) (LockedCmpxchg b0 b1 b2 b3 b4) = same _ (λ p. cc) (λ e. (cc, (cc, (cc, (cc, (cc)))))) (both _ _ (width_same a0 b0) (both _ _ (Decides-eqb a1 b1) (both _ _ (Decides-eqb a2 b2) (both _ _ (Decides-eqb a3 b3) (Decides-eqb a4 b4)))))
end_same (LockedCmpxchg a0 a1 a2 a3 a4) y = apart (λ e. cc)
end_same (Divide a0 a1 a2) (Divide b0 b1 b2) = same _ (λ p. cc) (λ e. (cc, (cc, (cc)))) (both _ _ (booleans_Decides a0 b0) (both _ _ (width_same a1 b1) (Decides-eqb a2 b2)))
end_same (Divide a0 a1 a2) y = apart (λ e. cc)
end_same (Go a0) (Go b0) = same _ (λ p. cc) (λ e. (cc)) (target_same a0 b0)
end_same (Go a0) y = apart (λ e. cc)
end_same (Branch a0 a1 a2) (Branch b0 b1 b2) = same _ (λ p. cc) (λ e. (cc, (cc, (cc)))) (both _ _ (cond_same a0 b0) (both _ _ (Decides-eqb a1 b1) (Decides-eqb a2 b2)))
end_same (Branch a0 a1 a2) y = apart (λ e. cc)
end_same BadCode BadCode = sure refl
end_same BadCode y = apart (λ e. cc)

abbrev part_of : List Op → PartEnd → Part
part_of ops end = record { ops = ops; end = end }

abbrev block_of : ℕ → List ℕ → List Part → Block
block_of at code parts = record { at = at; code = code; parts = parts }

part_whole : (p q : Part) → p.ops ≡ q.ops → p.end ≡ q.end → p ≡ q
part_whole p q d e = ap (λ ops. part_of ops p.end) d ∙ ap (λ end. part_of q.ops end) e

block_whole : (b c : Block) → b.at ≡ c.at → b.code ≡ c.code → b.parts ≡ c.parts → b ≡ c
block_whole b c d e f = ap (λ at. block_of at b.code b.parts) d ∙ ap (λ code. block_of c.at code b.parts) e ∙ ap (λ parts. block_of c.at c.code parts) f

pub part_same : (p q : Part) → Decides (part.eq p q) (p ≡ q)
part_same p q = same _ (λ e. part_whole p q e.0 e.1) (λ e. (ap (λ (x : Part). x.ops) e, ap (λ (x : Part). x.end) e)) (both _ _ (slice_eq-Decides op_same p.ops q.ops _ refl) (end_same p.end q.end))

pub block_same : (b c : Block) → Decides (block.eq b c) (b ≡ c)
block_same b c = same _ (λ e. block_whole b c e.0 e.1.0 e.1.1) (λ e. (ap (λ (x : Block). x.at) e, (ap (λ (x : Block). x.code) e, ap (λ (x : Block). x.parts) e))) (both _ _ (Decides-eqb b.at c.at) (both _ _ (slice_eq-Decides Decides-eqb b.code c.code _ refl) (slice_eq-Decides part_same b.parts c.parts _ refl)))
