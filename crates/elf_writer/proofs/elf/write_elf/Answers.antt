-- The file is its image's, has no fault, and its segments are aligned.
use Rattle.std.proofs.Common.{◌≡◌}
use Rattle.elf_image.specs.Layout.{ImageData}
use Rattle.elf_writer.proofs.ElfWritten.{image_written, sound_written, aligned_written}
use Rattle.elf_writer.proofs.elf.write_elf.Goals as goal

-- the image as the code reads it
written : goal.After-file_of → ImageData
written c = record { entry = c.image.inside.entry; segments = c.deref.result.now; entries = c.deref-2.result.now }

is_image : (c : goal.After-file_of) → written c ≡ c.args.image.now
unfolding written
is_image c = rw (c.deref.ensures.value, c.deref-2.ensures.value) c.image.view_is

pub returns-clause-image : goal.returns-clause-image
unfolding written
returns-clause-image c = image_written c.args.image.now (written c) (is_image c) c.facts.ensures c.requires c.file_of.ensures.room (λ v. v.items) c.file_of.result c.file_of.ensures.bytes c.file_of.ensures.values

pub returns-clause-sound : goal.returns-clause-sound
unfolding written
returns-clause-sound c = sound_written c.args.image.now (written c) (is_image c) c.facts.ensures c.requires c.file_of.ensures.room (λ v. v.items) c.file_of.result c.file_of.ensures.bytes c.file_of.ensures.values

pub returns-clause-aligned : goal.returns-clause-aligned
unfolding written
returns-clause-aligned c = aligned_written c.args.image.now (written c) (is_image c) c.facts.ensures c.requires c.file_of.ensures.room (λ v. v.items) c.file_of.result c.file_of.ensures.bytes c.file_of.ensures.values
