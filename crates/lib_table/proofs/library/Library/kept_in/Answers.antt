use Rattle.std.proofs.Common.{◌≡◌, ℕ, ◌<◌, true, false, Option, Some, None, sym, ap, ◌∙◌, inl, inr}
use Rattle.address_space.specs.Slots.{slot_of}
use Rattle.address_space.proofs.Numbers.{slot_back}
use Rattle.lib_table.specs.Library.{is_free, is_kept, is_thread, is_unborn, kept_in}
use Rattle.lib_table.proofs.LifeLaws.{kept_in-none, kept_in-only, kept_in-there}
use Rattle.lib_table.proofs.library.Library.kept_in.Goals as goal

pub returns-in-Live-clause-within : goal.returns-in-Live-clause-within
returns-in-Live-clause-within c =
    let taken : is_free c.slot-generation.result ≡ false = elim c.in-Live.is [ inl (start, argument, is) ↦ ap is_unborn is | inr (value, is) ↦ ap is_unborn is ] in
    let low : c.args.slot < 64 = c.slot-generation.ensures.below taken in
    ap slot_of c.number_in.ensures ∙ slot_back c.args.slot c.slot-generation.result.generation low

pub returns-in-Live-clause-only : goal.returns-in-Live-clause-only
returns-in-Live-clause-only c = λ u at.
    let kept : is_kept c.slot-generation.result.life ≡ true = elim c.in-Live.is [ inl (start, argument, is) ↦ ap is_kept is | inr (value, is) ↦ ap is_kept is ] in
    let told : kept_in c.args.self.now c.args.slot ≡ Some c.number_in.result = kept_in-there c.args.self.now c.args.slot c.number_in.result c.slot-generation.result c.slot-generation.ensures.slot kept c.number_in.ensures in
    ap (λ (o : Option ℕ). is_thread o u) (sym told) ∙ kept_in-only c.args.self.now c.args.slot u at

pub returns-in-Unborn-clause-only : goal.returns-in-Unborn-clause-only
returns-in-Unborn-clause-only c = λ u at.
    let free : is_kept c.slot-generation.result.life ≡ false = elim c.in-Unborn.is [ inl h ↦ ap is_kept h | inr h ↦ ap is_kept h ] in
    let told : kept_in c.args.self.now c.args.slot ≡ None = kept_in-none c.args.self.now c.args.slot c.slot-generation.result c.slot-generation.ensures.slot free in
    ap (λ (o : Option ℕ). is_thread o u) (sym told) ∙ kept_in-only c.args.self.now c.args.slot u at
