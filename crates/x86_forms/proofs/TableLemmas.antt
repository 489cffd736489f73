-- What the whole table keeps, computed once, and what follows at each of its lines.
use Rattle.std.proofs.Common.{◌≡◌, ℕ, zero, suc, ◌+◌, ◌/◌, ◌≤◌, ◌<◌, Bool, true, false, not, ◌&&◌, ◌||◌, List, [], ◌∷◌, inl, inr, Option, Some, None, refl, sym, ap, subst, arith, ◌∙◌}
use Rattle.std.specs.Prelude.{nat_eq, nat_lt, nat_le, slice_get, is_none}
use Rattle.std.specs.List.{list_all}
use Rattle.std.proofs.lemmas.Bool.{and_parts, and_from, or_cases, or_from, both_ways, eqb-true, eqb-false, ltb-true, leb-true, ne_eqb, not-true, false_from_ne_true, cases_Bool, true_from_ne_false}
use Rattle.std.proofs.lemmas.Option.{same_Some}
use Rattle.x86_forms.specs.declared.rows.Mark.{Mark}
use Rattle.x86_forms.specs.declared.rows.Row.{Row}
use Rattle.x86_forms.specs.Operands.{is_rex}
use Rattle.x86_forms.specs.Table.{Line, same, table}
use Rattle.x86_forms.specs.Spelling.{is_asked, asked_b, mark_of, mark_number, covers}
use Rattle.x86_forms.specs.Reading.{is_prefix, find_line, find_row, row_of}
use Rattle.x86_forms.proofs.Cuts.{pass_at}

-- ---- what covers a key

pub record Covers (mark : Mark) (b : ℕ) (escape : Bool) (op reg : ℕ) (line : Line) : Type 0 where
  pub marked : mark_number mark ≡ mark_number (mark_of line.row.prefixes)
  pub asked : is_asked (asked_b line.row.rex) b ≡ true
  pub mapped : same escape line.escape ≡ true
  pub from : line.first ≤ op
  pub below : op < line.first + line.count
  pub fixed : is_asked line.ext reg ≡ true

pub covers_parts : (mark : Mark) (b : ℕ) (escape : Bool) (op reg : ℕ) (line : Line) → covers mark b escape op reg line ≡ true → Covers mark b escape op reg line
unfolding covers
covers_parts mark b escape op reg line e =
    let p = and_parts _ _ e in
    let q = and_parts _ _ p.1 in
    let r = and_parts _ _ q.1 in
    let s = and_parts _ _ r.1 in
    let t = and_parts _ _ s.1 in
    record {
      marked = eqb-true _ _ p.0;
      asked = q.0;
      mapped = r.0;
      from = leb-true _ _ s.0;
      below = ltb-true _ _ t.0;
      fixed = t.1;
    }

-- the key with another mark of the same number, and another reg field that is as good
pub covers_from : (mark mark' : Mark) (b : ℕ) (escape : Bool) (op reg reg' : ℕ) (line : Line) → mark_number mark ≡ mark_number mark' → (is_asked line.ext reg ≡ true → is_asked line.ext reg' ≡ true) → covers mark b escape op reg line ≡ true → covers mark' b escape op reg' line ≡ true
unfolding covers
covers_from mark mark' b escape op reg reg' line m h e =
    let k = mark_number (mark_of line.row.prefixes) in
    first (nat_eq (mark_number mark) k) (nat_eq (mark_number mark') k) (others reg) (others reg') (λ x. subst (λ n. nat_eq n k ≡ true) m x) (λ x. last (is_asked (asked_b line.row.rex) b) (same escape line.escape) (nat_le line.first op) (nat_lt op (line.first + line.count)) (is_asked line.ext reg) (is_asked line.ext reg') h x) e
  where
    others : ℕ → Bool
    others n = is_asked (asked_b line.row.rex) b && (same escape line.escape && (nat_le line.first op && (nat_lt op (line.first + line.count) && is_asked line.ext n)))

    first : (x x' y y' : Bool) → (x ≡ true → x' ≡ true) → (y ≡ true → y' ≡ true) → (x && y) ≡ true → (x' && y') ≡ true
    first x x' y y' f g e = let p = and_parts x y e in and_from x' y' (f p.0) (g p.1)

    last : (v x y z w w' : Bool) → (w ≡ true → w' ≡ true) → (v && (x && (y && (z && w)))) ≡ true → (v && (x && (y && (z && w')))) ≡ true
    last v x y z w w' g e = first v v (x && (y && (z && w))) (x && (y && (z && w'))) (λ t. t) (λ e. first x x (y && (z && w)) (y && (z && w')) (λ t. t) (λ e. first y y (z && w) (z && w') (λ t. t) (λ e. first z z w w' (λ t. t) g e) e) e) e

-- ---- no two lines cover one key

abbrev pub asked_apart : Option ℕ → Option ℕ → Bool
asked_apart (Some g) (Some h) = not (nat_eq g h)
asked_apart (Some g) None = false
asked_apart None h = false

abbrev pub ends_before : Line → Line → Bool
ends_before k l = nat_le (k.first + k.count) l.first

-- two lines differ in the prefix, in REX.B, in the map, in the opcode or in the reg field
abbrev pub fields_apart : Line → Line → Bool
fields_apart k l = ends_before l k || asked_apart k.ext l.ext

abbrev pub opcodes_apart : Line → Line → Bool
opcodes_apart k l = ends_before k l || fields_apart k l

abbrev pub maps_apart : Line → Line → Bool
maps_apart k l = not (same k.escape l.escape) || opcodes_apart k l

abbrev pub bits_apart : Line → Line → Bool
bits_apart k l = asked_apart (asked_b k.row.rex) (asked_b l.row.rex) || maps_apart k l

abbrev pub same_mark : Line → Line → Bool
same_mark k l = nat_eq (mark_number (mark_of k.row.prefixes)) (mark_number (mark_of l.row.prefixes))

abbrev pub apart : Line → Line → Bool
apart k l = not (same_mark k l) || bits_apart k l

abbrev pub all_apart : List Line → Bool
all_apart [] = true
all_apart (l ∷ ls) = list_all (apart l) ls && all_apart ls

pub table_apart : all_apart table ≡ true
unfolding table
table_apart = refl

asked_not_both : (g h : Option ℕ) (n : ℕ) → asked_apart g h ≡ true → is_asked g n ≡ true → is_asked h n ≡ true → ⊥
asked_not_both (Some g) (Some h) n a p q =
    let x : g ≡ n = eqb-true g n p in
    let y : h ≡ n = eqb-true h n q in
    both_ways (nat_eq g h) (not-true _ a) (rw (x, y) (eq_self n))
  where
    eq_self : (m : ℕ) → nat_eq m m ≡ true
    eq_self m = true_from_ne_false (nat_eq m m) (λ f. eqb-false m m f refl)
asked_not_both (Some g) None n a p q = both_ways false refl a
asked_not_both None h n a p q = both_ways false refl a

same_twice : (e k l : Bool) → same e k ≡ true → same e l ≡ true → same k l ≡ true
same_twice true true l p q = q
same_twice true false l p q = absurd (both_ways false refl p)
same_twice false true l p q = absurd (both_ways false refl p)
same_twice false false l p q = q

apart_at : (mark : Mark) (b : ℕ) (escape : Bool) (op reg : ℕ) (k l : Line) → apart k l ≡ true → Covers mark b escape op reg k → Covers mark b escape op reg l → ⊥
apart_at mark b escape op reg k l a p q =
    elim (or_cases (not (same_mark k l)) (bits_apart k l) a) [
      | inl h ↦ eqb-false _ _ (not-true (same_mark k l) h) (sym p.marked ∙ q.marked)
      | inr h ↦ elim (or_cases (asked_apart (asked_b k.row.rex) (asked_b l.row.rex)) (maps_apart k l) h) [
        | inl h ↦ asked_not_both (asked_b k.row.rex) (asked_b l.row.rex) b h p.asked q.asked
        | inr h ↦ elim (or_cases (not (same k.escape l.escape)) (opcodes_apart k l) h) [
          | inl h ↦ both_ways (same k.escape l.escape) (not-true _ h) (same_twice escape k.escape l.escape p.mapped q.mapped)
          | inr h ↦ elim (or_cases (ends_before k l) (fields_apart k l) h) [
            | inl h ↦ (let x : k.first + k.count ≤ l.first = leb-true _ _ h in omega (arith, x, p.from, p.below, q.from, q.below))
            | inr h ↦ elim (or_cases (ends_before l k) (asked_apart k.ext l.ext) h) [
              | inl h ↦ (let x : l.first + l.count ≤ k.first = leb-true _ _ h in omega (arith, x, p.from, p.below, q.from, q.below))
              | inr h ↦ asked_not_both k.ext l.ext reg h p.fixed q.fixed
            ]
          ]
        ]
      ]
    ]

-- a line that covers a key is the one that is found
find_covering : (mark : Mark) (b : ℕ) (escape : Bool) (op reg : ℕ) (ls : List Line) (k : ℕ) (l : Line) → all_apart ls ≡ true → slice_get ls k ≡ Some l → covers mark b escape op reg l ≡ true → find_line ls mark b escape op reg ≡ Some l
unfolding find_line
find_covering mark b escape op reg [] k l all at c = absurd cc
find_covering mark b escape op reg (x ∷ xs) zero l all at c =
    let e : x ≡ l = same_Some x l at in
    let c' : covers mark b escape op reg x ≡ true = subst (λ v. covers mark b escape op reg v ≡ true) (sym e) c in
    rw c' at
find_covering mark b escape op reg (x ∷ xs) (suc k) l all at c =
    let a = and_parts _ _ all in
    let here : apart x l ≡ true = pass_at (apart x) xs k l a.0 at in
    let not_x : covers mark b escape op reg x ≡ false = false_from_ne_true _ (λ t. apart_at mark b escape op reg x l here (covers_parts mark b escape op reg x t) (covers_parts mark b escape op reg l c)) in
    rw not_x (find_covering mark b escape op reg xs k l a.1 at c)

pub row_again : (mark : Mark) (b : ℕ) (escape : Bool) (op reg k : ℕ) (l : Line) → slice_get table k ≡ Some l → covers mark b escape op reg l ≡ true → find_row mark b escape op reg ≡ Some l.row
unfolding find_row
row_again mark b escape op reg k l at c = ap row_of (find_covering mark b escape op reg table k l table_apart at c)

-- what was found covers the key
pub record Found (ls : List Line) (mark : Mark) (b : ℕ) (escape : Bool) (op reg : ℕ) (row : Row) : Type 0 where
  pub number : ℕ
  pub line : Line
  pub listed : slice_get ls number ≡ Some line
  pub covered : covers mark b escape op reg line ≡ true
  pub is : line.row ≡ row

found_at : (mark : Mark) (b : ℕ) (escape : Bool) (op reg : ℕ) (ls : List Line) (row : Row) → row_of (find_line ls mark b escape op reg) ≡ Some row → Found ls mark b escape op reg row
unfolding find_line
found_at mark b escape op reg [] row e = absurd cc
found_at mark b escape op reg (x ∷ xs) row e =
    elim (cases_Bool (covers mark b escape op reg x)) [
      | inl t ↦ (let h : Some x.row ≡ Some row = rw t at e in record { number = 0; line = x; listed = refl; covered = t; is = same_Some x.row row h })
      | inr f ↦ (let h : row_of (find_line xs mark b escape op reg) ≡ Some row = rw f at e in
          let r = found_at mark b escape op reg xs row h in
          record { number = suc r.number; line = r.line; listed = r.listed; covered = r.covered; is = r.is })
    ]

pub row_found : (mark : Mark) (b : ℕ) (escape : Bool) (op reg : ℕ) (row : Row) → find_row mark b escape op reg ≡ Some row → Found table mark b escape op reg row
unfolding find_row
row_found mark b escape op reg row e = found_at mark b escape op reg table row e

-- ---- a line without ModRM fixes no reg field

pub table_plain : list_all (λ l. l.row.modrm || is_none l.ext) table ≡ true
unfolding table
table_plain = refl

none_asks : (o : Option ℕ) (n : ℕ) → is_none o ≡ true → is_asked o n ≡ true
none_asks None n e = refl
none_asks (Some k) n e = absurd (both_ways false refl e)

-- The reg field matters only where the line has ModRM.
pub any_reg : (k : ℕ) (l : Line) (reg reg' : ℕ) → slice_get table k ≡ Some l → (l.row.modrm ≡ true → reg ≡ reg') → is_asked l.ext reg ≡ true → is_asked l.ext reg' ≡ true
any_reg k l reg reg' at h a =
    elim (or_cases _ _ (pass_at (λ v. v.row.modrm || is_none v.ext) table k l table_plain at)) [
      | inl m ↦ subst (λ n. is_asked l.ext n ≡ true) (h m) a
      | inr n ↦ none_asks l.ext reg' n
    ]

-- ---- no opcode without 0F is a prefix, a REX byte or 0F

abbrev pub outside : ℕ → Line → Bool
outside b l = nat_lt b l.first || nat_le (l.first + l.count) b

-- the prefix bytes that rows take, and 0F
abbrev pub front_bytes : List ℕ
front_bytes = 0x66 ∷ 0xF0 ∷ 0x2E ∷ 0x3E ∷ 0xF3 ∷ 0x0F ∷ []

abbrev pub no_rex_byte : Line → Bool
no_rex_byte l = nat_le (l.first + l.count) 0x40 || nat_le 0x50 l.first

abbrev pub is_clear : Line → Bool
is_clear l = list_all (λ b. outside b l) front_bytes && no_rex_byte l

abbrev pub starts : Line → Bool
starts l = l.escape || is_clear l

pub table_starts : list_all starts table ≡ true
unfolding table
table_starts = refl

is_not : (b : ℕ) (l : Line) (op : ℕ) → outside b l ≡ true → l.first ≤ op → op < l.first + l.count → nat_eq op b ≡ false
is_not b l op o f c =
    ne_eqb op b (λ e. elim (or_cases (nat_lt b l.first) (nat_le (l.first + l.count) b) o) [
      | inl h ↦ (let x : b < l.first = ltb-true _ _ h in omega (arith, x, f, c, e))
      | inr h ↦ (let x : l.first + l.count ≤ b = leb-true _ _ h in omega (arith, x, f, c, e))
    ])

pub record IsOpcode (op : ℕ) : Type 0 where
  pub prefix : is_prefix op ≡ false
  pub rex : is_rex op ≡ false
  pub escape : nat_eq op 0x0F ≡ false

pub opens : (k : ℕ) (l : Line) (op : ℕ) → slice_get table k ≡ Some l → l.escape ≡ false → l.first ≤ op → op < l.first + l.count → IsOpcode op
opens k l op at plain f c =
    let h : starts l ≡ true = pass_at starts table k l table_starts at in
    let i : is_clear l ≡ true = elim (or_cases l.escape (is_clear l) h) [ inl e ↦ absurd (both_ways l.escape plain e) | inr i ↦ i ] in
    let a = and_parts (list_all (λ b. outside b l) front_bytes) (no_rex_byte l) i in
    let out : (n b : ℕ) → slice_get front_bytes n ≡ Some b → nat_eq op b ≡ false = λ n b e. is_not b l op (pass_at (λ v. outside v l) front_bytes n b a.0 e) f c in
    record {
      prefix = or_from _ _ (out 0 0x66 refl) (or_from _ _ (out 1 0xF0 refl) (or_from _ _ (out 2 0x2E refl) (or_from _ _ (out 3 0x3E refl) (out 4 0xF3 refl))));
      rex = ne_eqb (op / 16) 4 (λ q. elim (or_cases (nat_le (l.first + l.count) 0x40) (nat_le 0x50 l.first) a.1) [
        | inl h ↦ (let x : l.first + l.count ≤ 0x40 = leb-true _ _ h in omega (arith, x, f, c, q))
        | inr h ↦ (let x : 0x50 ≤ l.first = leb-true _ _ h in omega (arith, x, f, c, q))
      ]);
      escape = out 5 0x0F refl;
    }
