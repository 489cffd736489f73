use Rattle.std.specs.Prelude.{Bool, true, false, not, ◌||◌}
use Rattle.ir_syntax.specs.declared.cond.Cond.{Cond}
use Rattle.ir_syntax.specs.declared.cond.Cond.TheVariants.{O, No, B, Ae, E, Ne, Be, A, S, Ns, P, Np, L, Ge, Le, G}
use Rattle.ir_syntax.specs.declared.cond.Flag.{Flag}
use Rattle.ir_syntax.specs.declared.cond.Flag.TheVariants.{Cf, Pf, Zf, Sf, Of}

abbrev pub differ : Bool → Bool → Bool
differ true b = not b
differ false b = b

-- does the condition hold with these flags? Intel SDM Volume 1, appendix B
abbrev pub test : Cond → (Flag → Bool) → Bool
test O f = f Of
test No f = not (f Of)
test B f = f Cf
test Ae f = not (f Cf)
test E f = f Zf
test Ne f = not (f Zf)
test Be f = f Cf || f Zf
test A f = not (f Cf || f Zf)
test S f = f Sf
test Ns f = not (f Sf)
test P f = f Pf
test Np f = not (f Pf)
test L f = differ (f Sf) (f Of)
test Ge f = not (differ (f Sf) (f Of))
test Le f = f Zf || differ (f Sf) (f Of)
test G f = not (f Zf || differ (f Sf) (f Of))

abbrev pub is_cf : Flag → Bool
is_cf Cf = true
is_cf Pf = false
is_cf Zf = false
is_cf Sf = false
is_cf Of = false

abbrev pub is_pf : Flag → Bool
is_pf Cf = false
is_pf Pf = true
is_pf Zf = false
is_pf Sf = false
is_pf Of = false

abbrev pub is_zf : Flag → Bool
is_zf Cf = false
is_zf Pf = false
is_zf Zf = true
is_zf Sf = false
is_zf Of = false

abbrev pub is_sf : Flag → Bool
is_sf Cf = false
is_sf Pf = false
is_sf Zf = false
is_sf Sf = true
is_sf Of = false

abbrev pub is_of : Flag → Bool
is_of Cf = false
is_of Pf = false
is_of Zf = false
is_of Sf = false
is_of Of = true

-- the flags on which the condition depends
abbrev pub reads : Cond → Flag → Bool
reads O f = is_of f
reads No f = is_of f
reads B f = is_cf f
reads Ae f = is_cf f
reads E f = is_zf f
reads Ne f = is_zf f
reads Be f = is_cf f || is_zf f
reads A f = is_cf f || is_zf f
reads S f = is_sf f
reads Ns f = is_sf f
reads P f = is_pf f
reads Np f = is_pf f
reads L f = is_sf f || is_of f
reads Ge f = is_sf f || is_of f
reads Le f = is_zf f || (is_sf f || is_of f)
reads G f = is_zf f || (is_sf f || is_of f)
