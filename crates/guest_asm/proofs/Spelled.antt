-- Parts that a row of the table takes are a spelling.
use Rattle.std.proofs.Common.{◌≡◌, ℕ, zero, suc, ◌+◌, ◌*◌, ◌/◌, ◌%◌, ◌<◌, ◌≤◌, Bool, true, false, List, [], ◌∷◌, ◌++◌, length, Option, Some, None, refl, sym, ap, subst, arith, ◌∙◌, eq-eqb}
use Rattle.std.specs.Prelude.{nat_eq, nat_lt}
use Rattle.std.proofs.lemmas.Bool.{and_parts, and_from, both_ways, ltb-true, lt-ltb}
use Rattle.std.proofs.lemmas.List.Folds.{list_all-append}
use Rattle.x86_forms.specs.declared.operands.Width.{Width}
use Rattle.x86_forms.specs.declared.operands.Width.TheVariants.{W8, W16, W32, W64}
use Rattle.x86_forms.specs.declared.operands.Base.TheVariants as base
use Rattle.x86_forms.specs.declared.operands.Place.{Place}
use Rattle.x86_forms.specs.declared.operands.Place.TheVariants as place
use Rattle.x86_forms.specs.declared.operands.Base.{Base}
use Rattle.x86_forms.specs.declared.instructions.Instr.{Instr}
use Rattle.x86_forms.specs.declared.rows.Row.{Row}
use Rattle.x86_forms.specs.Operands.{byte, rex_w, rex_r, rex_x, rex_b, middle_field, width_of, tail_len}
use Rattle.x86_forms.specs.Table.{same}
use Rattle.x86_forms.specs.Spelling.{Parts, bytes_of, Spells, escape_bytes, modrm_len, covers, mark_of, sib_len, disp_size, is_asked, is_rex_part, meaning, allows, allows_rex, is_narrowed, are_bytes}
use Rattle.x86_forms.specs.Reading.{find_row}
use Rattle.x86_forms.proofs.TableLemmas.{covers_parts, row_found}
use Rattle.guest_asm.specs.Places.{optional, low_bytes, base_high, index_high, b_of, x_of, below, base_can, index_can, place_can}
use Rattle.guest_asm.specs.Pieces.{w_of, rex_of, narrow_bytes, marks_can}

-- ---- a row's parts

-- what a row asks of the parts, and what they mean under it
pub record RowFacts (row : Row) (w : Width) (p : Parts) (i : Instr) : Type 0 where
  pub allowed : allows row.prefixes p.prefixes ≡ true
  pub asked : allows_rex row.rex p.rex ≡ true
  pub width : width_of row.size (is_narrowed p.prefixes) (rex_w (byte p.rex)) ≡ Some w
  pub modrm : length p.modrm ≡ modrm_len row.modrm
  pub fixed : is_asked row.fixed (byte p.modrm) ≡ true
  pub sib : length p.sib ≡ sib_len row.modrm (byte p.modrm)
  pub disp : length p.disp ≡ disp_size row.modrm (byte p.modrm) (byte p.sib)
  pub imm : length p.imm ≡ tail_len row.tail w
  pub means : meaning row w p ≡ Some i

-- what any row asks of them
pub record Formed (e : Bool) (p : Parts) : Type 0 where
  pub rex : is_rex_part p.rex ≡ true
  pub escape : p.escape ≡ escape_bytes e
  pub opcode : length p.opcode ≡ 1
  pub bytes : are_bytes (bytes_of p) ≡ true
  pub short : length (bytes_of p) ≤ 15

same_is : (e l : Bool) → same e l ≡ true → e ≡ l
same_is true l h = sym h
same_is false true h = absurd (both_ways false refl h)
same_is false false h = refl

pub spell : (e : Bool) (row : Row) (w : Width) (p : Parts) (i : Instr) → find_row (mark_of row.prefixes) (rex_b (byte p.rex)) e (byte p.opcode) (middle_field (byte p.modrm)) ≡ Some row → RowFacts row w p i → Formed e p → Spells i (bytes_of p)
spell e row w p i found facts formed =
    let r = row_found (mark_of row.prefixes) (rex_b (byte p.rex)) e (byte p.opcode) (middle_field (byte p.modrm)) row found in
    let l = r.line in
    let c = covers_parts _ _ _ _ _ l r.covered in
    let escape : e ≡ l.escape = same_is e l.escape c.mapped in
    let f : RowFacts l.row w p i = subst (λ v. RowFacts v w p i) (sym r.is) facts in
    let marked : covers (mark_of l.row.prefixes) (rex_b (byte p.rex)) e (byte p.opcode) (middle_field (byte p.modrm)) l ≡ true = subst (λ (v : Row). covers (mark_of v.prefixes) (rex_b (byte p.rex)) e (byte p.opcode) (middle_field (byte p.modrm)) l ≡ true) (sym r.is) r.covered in
    let covered : covers (mark_of l.row.prefixes) (rex_b (byte p.rex)) l.escape (byte p.opcode) (middle_field (byte p.modrm)) l ≡ true = subst (λ v. covers (mark_of l.row.prefixes) (rex_b (byte p.rex)) v (byte p.opcode) (middle_field (byte p.modrm)) l ≡ true) escape marked in
    record {
      parts = p;
      width = w;
      number = r.number;
      line = l;
      listed = r.listed;
      form = record {
        prefixes = f.allowed;
        rex = formed.rex;
        asked = f.asked;
        width = f.width;
        escape = formed.escape ∙ ap escape_bytes escape;
        opcode = formed.opcode;
        covered = covered;
        modrm = f.modrm;
        fixed = f.fixed;
        sib = f.sib;
        disp = f.disp;
        imm = f.imm;
      };
      means = f.means;
      string = refl;
      bytes = formed.bytes;
      short = formed.short;
    }

-- ---- lists of bytes

pub low_length : (k n : ℕ) → length (low_bytes k n) ≡ k
low_length zero n = refl
low_length (suc k) n = ap (λ (m : ℕ). suc m) (low_length k (n / 256))

pub low_are_bytes : (k n : ℕ) → are_bytes (low_bytes k n) ≡ true
low_are_bytes zero n = refl
low_are_bytes (suc k) n = and_from (nat_lt (n % 256) 256) (are_bytes (low_bytes k (n / 256))) (lt-ltb _ _ (omega arith)) (low_are_bytes k (n / 256))

pub bytes_both : (a b : List ℕ) → are_bytes a ≡ true → are_bytes b ≡ true → are_bytes (a ++ b) ≡ true
bytes_both a b p q = list_all-append (λ v. nat_lt v 256) a b ∙ and_from (are_bytes a) (are_bytes b) p q

pub one_byte : (b : ℕ) → b < 256 → are_bytes (b ∷ []) ≡ true
one_byte b h = and_from (nat_lt b 256) true (lt-ltb b 256 h) refl

pub some_byte : (o : Option ℕ) → byte (optional o) < 256 → are_bytes (optional o) ≡ true
some_byte None h = refl
some_byte (Some b) h = one_byte b h

pub optional_short : (o : Option ℕ) → length (optional o) ≤ 1
optional_short None = omega arith
optional_short (Some b) = omega arith

pub narrow_short : (n : Bool) → length (narrow_bytes n) ≤ 1
narrow_short true = omega arith
narrow_short false = omega arith

pub narrow_are_bytes : (n : Bool) → are_bytes (narrow_bytes n) ≡ true
narrow_are_bytes true = refl
narrow_are_bytes false = refl

pub escape_short : (e : Bool) → length (escape_bytes e) ≤ 1
escape_short true = omega arith
escape_short false = omega arith

pub escape_are_bytes : (e : Bool) → are_bytes (escape_bytes e) ≡ true
escape_are_bytes true = refl
escape_are_bytes false = refl

-- ---- REX

-- a bit of REX, which is 0 where there is none
pub record Bit (no_rex : Bool) (k : ℕ) : Type 0 where
  pub small : k < 2
  pub none : no_rex ≡ true → k ≡ 0

pub record RexMade (no_rex : Bool) (marks : Width) (reg x b : ℕ) (bs : List ℕ) : Type 0 where
  pub part : is_rex_part bs ≡ true
  pub none : nat_eq (length bs) 0 ≡ no_rex
  pub bit_w : rex_w (byte bs) ≡ w_of marks
  pub bit_r : rex_r (byte bs) ≡ reg / 8
  pub bit_x : rex_x (byte bs) ≡ x
  pub bit_b : rex_b (byte bs) ≡ b
  pub bytes : are_bytes bs ≡ true
  pub short : length bs ≤ 1

w_small : (w : Width) → w_of w < 2
w_small W8 = omega arith
w_small W16 = omega arith
w_small W32 = omega arith
w_small W64 = omega arith

w_none : (w : Width) → marks_can true w ≡ true → w_of w ≡ 0
w_none W8 h = refl
w_none W16 h = refl
w_none W32 h = refl
w_none W64 h = absurd (both_ways false refl h)

pub rex_made : (no_rex : Bool) (marks : Width) (reg x b : ℕ) → marks_can no_rex marks ≡ true → Bit no_rex (reg / 8) → Bit no_rex x → Bit no_rex b → RexMade no_rex marks reg x b (optional (rex_of no_rex marks reg x b))
rex_made true marks reg x b m r x' b' =
    record {
      part = refl;
      none = refl;
      bit_w = sym (w_none marks m);
      bit_r = sym (r.none refl);
      bit_x = sym (x'.none refl);
      bit_b = sym (b'.none refl);
      bytes = refl;
      short = omega arith;
    }
rex_made false marks reg x b m r x' b' =
    let v = 64 + 8 * w_of marks + 4 * (reg / 8 % 2) + 2 * (x % 2) + b % 2 in
    let l = w_small marks in
    let hr : reg / 8 < 2 = r.small in
    let hx : x < 2 = x'.small in
    let hb : b < 2 = b'.small in
    record {
      part = eq-eqb (v / 16) 4 (omega (arith, l));
      none = refl;
      bit_w = omega (arith, l);
      bit_r = omega (arith, l, hr);
      bit_x = omega (arith, l, hx);
      bit_b = omega (arith, l, hb);
      bytes = one_byte v (omega (arith, l));
      short = omega arith;
    }

pub below_bit : (no_rex : Bool) (r : ℕ) → below no_rex r ≡ true → Bit no_rex (r / 8)
below_bit true r h = let l : r < 8 = ltb-true r 8 h in record { small = omega (arith, l); none = λ _. omega (arith, l) }
below_bit false r h = let l : r < 16 = ltb-true r 16 h in record { small = omega (arith, l); none = λ e. absurd (both_ways false refl e) }

pub zero_bit : (no_rex : Bool) → Bit no_rex 0
zero_bit no_rex = record { small = omega arith; none = λ _. refl }

base_bit : (no_rex : Bool) (b : Base) (indexed : Bool) → base_can no_rex b indexed ≡ true → Bit no_rex (base_high b)
base_bit no_rex base.None indexed h = zero_bit no_rex
base_bit no_rex base.Rip indexed h = zero_bit no_rex
base_bit no_rex (base.Reg r) indexed h = below_bit no_rex r h

index_bit : (no_rex : Bool) (i : Option ℕ) (s : ℕ) → index_can no_rex i s ≡ true → Bit no_rex (index_high i)
index_bit no_rex None s h = zero_bit no_rex
index_bit no_rex (Some r) s h = below_bit no_rex r (and_parts (below no_rex r) _ h).0

pub place_bits : (no_rex : Bool) (p : Place) → place_can no_rex p ≡ true → Bit no_rex (x_of p) × Bit no_rex (b_of p)
place_bits no_rex (place.Reg n) h = (zero_bit no_rex, below_bit no_rex n h)
place_bits no_rex (place.Mem m) h = let p = and_parts (base_can no_rex m.base _) _ h in (index_bit no_rex m.index m.scale p.1, base_bit no_rex m.base _ p.0)
