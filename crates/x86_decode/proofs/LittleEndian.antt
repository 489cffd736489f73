-- What little-endian bytes make, byte by byte.
use Rattle.std.proofs.Common.{◌≡◌, ℕ, zero, suc, ◌+◌, ◌*◌, ◌≤◌, ◌<◌, List, [], ◌∷◌, get_or, length, take, refl, sym, ap, arith, ◌∙◌}
use Rattle.std.specs.Prelude.{pos}
use Rattle.std.specs.Int.{w8, w16, w32, w64, cast_signed}
use Rattle.std.proofs.lemmas.Int.{to_z_pos}
use Rattle.std.proofs.lemmas.List.{nil_from_length}
use Rattle.x86_forms.specs.declared.operands.Width.{Width}
use Rattle.x86_forms.specs.declared.rows.Tail.{Tail}
use Rattle.x86_forms.specs.declared.rows.Tail.TheVariants as tail
use Rattle.x86_forms.specs.declared.operands.Width.TheVariants.{W8, W16, W32, W64}
use Rattle.x86_forms.specs.Operands.{unsigned, tail_len}

-- eight bytes, of which those that are missing are 0
abbrev pub low_half : List ℕ → ℕ
low_half bs = get_or bs 0 0 + 256 * get_or bs 1 0 + 65536 * get_or bs 2 0 + 16777216 * get_or bs 3 0

abbrev pub high_half : List ℕ → ℕ
high_half bs = get_or bs 4 0 + 256 * get_or bs 5 0 + 65536 * get_or bs 6 0 + 16777216 * get_or bs 7 0

pub in_halves : (bs : List ℕ) → length bs ≤ 8 → unsigned bs ≡ low_half bs + 4294967296 * high_half bs
in_halves [] le = refl
in_halves (a ∷ []) le = omega (arith)
in_halves (a ∷ b ∷ []) le = omega (arith)
in_halves (a ∷ b ∷ c ∷ []) le = omega (arith)
in_halves (a ∷ b ∷ c ∷ d ∷ []) le = omega (arith)
in_halves (a ∷ b ∷ c ∷ d ∷ e ∷ []) le = omega (arith)
in_halves (a ∷ b ∷ c ∷ d ∷ e ∷ f ∷ []) le = omega (arith)
in_halves (a ∷ b ∷ c ∷ d ∷ e ∷ f ∷ g ∷ []) le = omega (arith)
in_halves (a ∷ b ∷ c ∷ d ∷ e ∷ f ∷ g ∷ h ∷ []) le = omega (arith)
in_halves (a ∷ b ∷ c ∷ d ∷ e ∷ f ∷ g ∷ h ∷ i ∷ more) le = absurd (omega (arith, le))

-- the bytes behind the end are 0
pub behind : (bs : List ℕ) (k : ℕ) → length bs ≤ k → get_or bs k 0 ≡ 0
behind [] k le = refl
behind (b ∷ bs) zero le = absurd (omega (arith, le))
behind (b ∷ bs) (suc k) le = behind bs k (omega (arith, le))

pub of_none : (bs : List ℕ) → length bs ≡ 0 → cast_signed w64 (unsigned bs) ≡ pos 0
of_none bs e = ap (λ (l : List ℕ). cast_signed w64 (unsigned l)) (nil_from_length bs (omega (arith, e)))

pub of_one : (bs : List ℕ) → length bs ≡ 1 → cast_signed w8 (get_or bs 0 0) ≡ cast_signed w8 (unsigned bs)
of_one bs e = ap (cast_signed w8) (omega (arith, in_halves bs (omega (arith, e)), behind bs 1 (omega (arith, e)), behind bs 2 (omega (arith, e)), behind bs 3 (omega (arith, e)), behind bs 4 (omega (arith, e)), behind bs 5 (omega (arith, e)), behind bs 6 (omega (arith, e)), behind bs 7 (omega (arith, e))))

pub of_two : (bs : List ℕ) → length bs ≡ 2 → cast_signed w16 (get_or bs 0 0 + 256 * get_or bs 1 0) ≡ cast_signed w16 (unsigned bs)
of_two bs e = ap (cast_signed w16) (omega (arith, in_halves bs (omega (arith, e)), behind bs 2 (omega (arith, e)), behind bs 3 (omega (arith, e)), behind bs 4 (omega (arith, e)), behind bs 5 (omega (arith, e)), behind bs 6 (omega (arith, e)), behind bs 7 (omega (arith, e))))

pub of_three : (bs : List ℕ) → length bs ≡ 3 → get_or bs 0 0 < 256 → get_or bs 1 0 < 256 → get_or bs 2 0 < 256 → cast_signed w32 (get_or bs 0 0 + 256 * get_or bs 1 0 + 65536 * get_or bs 2 0) ≡ cast_signed w64 (unsigned bs)
of_three bs e p q r =
    let n = get_or bs 0 0 + 256 * get_or bs 1 0 + 65536 * get_or bs 2 0 in
    let is : n ≡ unsigned bs = omega (arith, in_halves bs (omega (arith, e)), behind bs 3 (omega (arith, e)), behind bs 4 (omega (arith, e)), behind bs 5 (omega (arith, e)), behind bs 6 (omega (arith, e)), behind bs 7 (omega (arith, e))) in
    to_z_pos w32 n (omega (arith, p, q, r)) ∙ sym (to_z_pos w64 n (omega (arith, p, q, r))) ∙ ap (cast_signed w64) is

pub of_four : (bs : List ℕ) → length bs ≡ 4 → cast_signed w32 (get_or bs 0 0 + 256 * get_or bs 1 0 + 65536 * (get_or bs 2 0 + 256 * get_or bs 3 0)) ≡ cast_signed w32 (unsigned bs)
of_four bs e = ap (cast_signed w32) (omega (arith, in_halves bs (omega (arith, e)), behind bs 4 (omega (arith, e)), behind bs 5 (omega (arith, e)), behind bs 6 (omega (arith, e)), behind bs 7 (omega (arith, e))))

pub of_eight : (bs : List ℕ) → length bs ≤ 8 → cast_signed w64 (low_half bs + 4294967296 * high_half bs) ≡ cast_signed w64 (unsigned bs)
of_eight bs e = ap (cast_signed w64) (sym (in_halves bs e))

pub of_front : (bs : List ℕ) → unsigned (take 2 bs) ≡ get_or bs 0 0 + 256 * get_or bs 1 0
of_front [] = refl
of_front (a ∷ []) = omega (arith)
of_front (a ∷ b ∷ more) = omega (arith)

-- an immediate has at most eight bytes
pub tail_small : (t : Tail) (w : Width) → tail_len t w ≤ 8
unfolding tail_len
tail_small tail.Nothing w = omega (arith)
tail_small tail.Ib w = omega (arith)
tail_small tail.Iz W8 = omega (arith)
tail_small tail.Iz W16 = omega (arith)
tail_small tail.Iz W32 = omega (arith)
tail_small tail.Iz W64 = omega (arith)
tail_small tail.Iv W8 = omega (arith)
tail_small tail.Iv W16 = omega (arith)
tail_small tail.Iv W32 = omega (arith)
tail_small tail.Iv W64 = omega (arith)
tail_small tail.Iw w = omega (arith)
tail_small tail.Rel8 w = omega (arith)
tail_small tail.Rel32 w = omega (arith)
