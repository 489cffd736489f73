-- What a thread asks of the library at an address.
use Rattle.std.proofs.Common.{◌≡◌, ◌≢◌, ℕ, true, ◌&&◌, Option, Some, None, refl, sym, ap, ◌∙◌}
use Rattle.std.proofs.lemmas.Bool.{ne_eqb}
use Rattle.std.proofs.lemmas.Option.{none-some}
use Rattle.std.specs.Prelude.{is_none}
use Rattle.address_space.specs.declared.TheConstants.{CALL_DOOR, END_DOOR}
use Rattle.elf_image.specs.Layout.{ImageData, function_at}
use Rattle.elf_image.specs.declared.place.Function.{Function}
use Rattle.x86_model.specs.declared.want.Door.{Door}
use Rattle.x86_model.specs.Want.{door_at}
use Rattle.basic_blocks.specs.Places.{is_code_place}
use Rattle.lib_table.specs.declared.ask.Asked.{Asked}
use Rattle.lib_table.specs.declared.ask.Asked.TheVariants as asked
use Rattle.guest_parts.specs.Calls.{asked_in, asked_of}

pub end_asked : (image : ImageData) (a : ℕ) → a ≡ END_DOOR → Some asked.EndDoor ≡ asked_in image a
unfolding door_at
end_asked image a e = sym (ap (λ d. asked_of d (function_at a image.entries)) (ap door_at e))

pub call_asked : (image : ImageData) (a : ℕ) → a ≡ CALL_DOOR → Some asked.CallDoor ≡ asked_in image a
unfolding door_at
call_asked image a e = sym (ap (λ d. asked_of d (function_at a image.entries)) (ap door_at e))

no_door : (a : ℕ) → a ≢ END_DOOR → a ≢ CALL_DOOR → door_at a ≡ None
unfolding door_at
no_door a e f = rw (ne_eqb a END_DOOR e) (rw (ne_eqb a CALL_DOOR f) refl)

pub place_asked : (image : ImageData) (a : ℕ) (f : Option Function) (o : Option Asked) → a ≢ END_DOOR → a ≢ CALL_DOOR → function_at a image.entries ≡ f → o ≡ asked_of None f → o ≡ asked_in image a
place_asked image a f o e g h is = is ∙ sym (ap (λ d. asked_of d (function_at a image.entries)) (no_door a e g) ∙ ap (asked_of None) h)

by_both : (d : Option Door) (f : Option Function) → asked_of d f ≡ None → (is_none d && is_none f) ≡ true
by_both (Some d) f e = absurd (none-some _ (sym e))
by_both None (Some f) e = absurd (none-some _ (sym e))
by_both None None e = refl

pub code_there : (image : ImageData) (a : ℕ) → asked_in image a ≡ None → is_code_place image a ≡ true
code_there image a e = by_both (door_at a) (function_at a image.entries) e
