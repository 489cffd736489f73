-- The sixteen conditions (Intel SDM, Volume 1, appendix B; Volume 2, appendix B.1, "Condition Test Field").
use Rattle.std.specs.Prelude.{List, [], ◌∷◌, Bool, true, false, not, ◌||◌}
use Rattle.x86_forms.specs.declared.conditions.Cond.{Cond}
use Rattle.x86_forms.specs.declared.conditions.Cond.TheVariants.{O, No, B, Ae, E, Ne, Be, A, S, Ns, P, Np, L, Ge, Le, G}

-- the conditions by their codes 0 to 15
abbrev pub conditions : List Cond
conditions = O ∷ No ∷ B ∷ Ae ∷ E ∷ Ne ∷ Be ∷ A ∷ S ∷ Ns ∷ P ∷ Np ∷ L ∷ Ge ∷ Le ∷ G ∷ []

abbrev pub differ : Bool → Bool → Bool
differ true b = not b
differ false b = b

-- Whether a condition holds under the flags cf, pf, zf, sf and of. Each one with an odd code is the negation of the one before it.
abbrev pub truth : Cond → Bool → Bool → Bool → Bool → Bool → Bool
truth O cf pf zf sf of = of
truth B cf pf zf sf of = cf
truth E cf pf zf sf of = zf
truth Be cf pf zf sf of = cf || zf
truth S cf pf zf sf of = sf
truth P cf pf zf sf of = pf
truth L cf pf zf sf of = differ sf of
truth Le cf pf zf sf of = zf || differ sf of
truth No cf pf zf sf of = not of
truth Ae cf pf zf sf of = not cf
truth Ne cf pf zf sf of = not zf
truth A cf pf zf sf of = not (cf || zf)
truth Ns cf pf zf sf of = not sf
truth Np cf pf zf sf of = not pf
truth Ge cf pf zf sf of = not (differ sf of)
truth G cf pf zf sf of = not (zf || differ sf of)
