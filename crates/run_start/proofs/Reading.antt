-- Refusals.
use Rattle.std.proofs.Common.{◌≡◌, ℕ, ◌≤◌, true, Bool, List, [], ◌∷◌, length, Option, Some, None, inl, inr, refl, sym, subst}
use Rattle.elf_image.specs.Layout.{ImageData}
use Rattle.basic_blocks.specs.Reach.{IsReach}
use Rattle.machine_laws.specs.Cases.{IsInput, reads_input}
use Rattle.machine_model.specs.CaseData.{CaseData}
use Rattle.mx_outside.specs.Names.{NameMap}
use Rattle.run_start.specs.declared.fault.StartFault.{StartFault}
use Rattle.run_start.specs.declared.fault.StartFault.TheVariants.{Image, ReadFault, Absent, IrText, Stale, Twice, TooLong, TooMany, Memory}
use Rattle.run_start.specs.Case.{ArePlacesIn, IsCaseOf, IsFirstOf}
use Rattle.run_start.specs.Program.{IsRead}
use Rattle.run_start.specs.Refusal.{Counts, HasProgram, IsFile, Refuses, RefusesFile, RefusesFirst, RefusesImage, RefusesInput, RefusesProgram, file_limit}

pub image_refuses : (bytes : List ℕ) (args : List (List ℕ)) (fault : StartFault) → RefusesImage bytes fault → RefusesProgram bytes args fault
image_refuses bytes args (Image number) r = inl r
image_refuses bytes args ReadFault r = absurd r
image_refuses bytes args Absent r = absurd r
image_refuses bytes args (IrText f) r = absurd r
image_refuses bytes args (Stale address file lifted) r = absurd r
image_refuses bytes args (Twice a) r = absurd r
image_refuses bytes args TooLong r = absurd r
image_refuses bytes args TooMany r = absurd r
image_refuses bytes args (Memory e) r = r

-- where the file can't be read, the input is as it was
pub file_refuses : (names : Option NameMap) (prog : List ℕ) (args : List (List ℕ)) (ir : Option (List ℕ)) (left : Option (List ℕ)) (n : Counts) (fault : StartFault) → n.input_now ≡ n.input_before → RefusesFile names prog n.files_before n.files_now fault → Refuses names prog args ir left n fault
file_refuses names prog args ir left n fault same r = inl (record { input = same; refused = r })

pub program_refuses : (names : Option NameMap) (prog : List ℕ) (args : List (List ℕ)) (ir : Option (List ℕ)) (left : Option (List ℕ)) (n : Counts) (bytes : List ℕ) (fault : StartFault) → IsFile names prog bytes → length bytes ≤ file_limit → n.files_now ≡ n.files_before → n.input_now ≡ n.input_before → RefusesProgram bytes args fault → Refuses names prog args ir left n fault
program_refuses names prog args ir left n bytes fault file few same kept r = inr (inl (record { input = kept; files = same; bytes = bytes; file = record { file = file; within = few }; refused = r }))

has_program : (names : Option NameMap) (prog : List ℕ) (args : List (List ℕ)) (bytes : List ℕ) (image : ImageData) → IsFile names prog bytes → length bytes ≤ file_limit → IsRead bytes args image → HasProgram names prog args image
has_program names prog args bytes image file few read = record { bytes = bytes; file = record { file = file; within = few }; read = read }

pub places_refuse : (names : Option NameMap) (prog : List ℕ) (args : List (List ℕ)) (ir : Option (List ℕ)) (left : Option (List ℕ)) (n : Counts) (bytes : List ℕ) (image : ImageData) (fault : StartFault) → IsFile names prog bytes → length bytes ≤ file_limit → n.input_now ≡ n.input_before → IsRead bytes args image → RefusesFirst names ir image n.files_before n.files_now fault → Refuses names prog args ir left n fault
places_refuse names prog args ir left n bytes image fault file few same read r = inr (inr (inl (record { input = same; image = image; program = has_program names prog args bytes image file few read; refused = r })))

pub input_refuses : (names : Option NameMap) (prog : List ℕ) (args : List (List ℕ)) (ir : Option (List ℕ)) (left : Option (List ℕ)) (n : Counts) (bytes : List ℕ) (image : ImageData) (places : List ℕ) (fault : StartFault) → IsFile names prog bytes → length bytes ≤ file_limit → n.files_now ≡ n.files_before → IsRead bytes args image → IsFirstOf names ir image places → reads_input image ≡ true → RefusesInput left n.input_before n.input_now fault → Refuses names prog args ir left n fault
input_refuses names prog args ir left n bytes image places fault file few same read first reads r = inr (inr (inr (record { files = same; image = image; program = has_program names prog args bytes image file few read; places = places; first = first; reads = reads; refused = r })))

-- ---- the case

pub first_given : (names : Option NameMap) (ir : List ℕ) (image : ImageData) (places : List ℕ) → ArePlacesIn names ir image places → IsFirstOf names (Some ir) image places
first_given names ir image places h = record { given = Some places; are_given = (places, refl, h); first = refl }

pub first_reached : (names : Option NameMap) (image : ImageData) (places : List ℕ) → IsReach image (image.entry ∷ []) places → IsFirstOf names None image places
first_reached names image places h = record { given = None; are_given = refl; first = h }

pub case_is : (names : Option NameMap) (ir : Option (List ℕ)) (bytes : List ℕ) (args : List (List ℕ)) (left : Option (List ℕ)) (limit : ℕ) (strict : Bool) (image : ImageData) (input first : List ℕ) (c : CaseData) → IsRead bytes args image → IsInput (reads_input image) left input → IsFirstOf names ir image first → c ≡ record { image = image; args = args; input = input; limit = limit; strict = strict; first = first } → IsCaseOf names ir bytes args left limit strict c
case_is names ir bytes args left limit strict image input first c read has found e = subst (IsCaseOf names ir bytes args left limit strict) (sym e) (record {
  given = found.given;
  are_given = found.are_given;
  case = record { image = read.program; arguments = refl; input = has; steps = refl; misses = refl; first = found.first };
  accepted = read.accepted;
})
