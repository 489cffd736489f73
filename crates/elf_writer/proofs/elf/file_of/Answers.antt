-- The pieces are the parts of the file in order.
use Rattle.std.proofs.Common.{length, refl}
use Rattle.elf_writer.proofs.ElfParts.{assembled}
use Rattle.elf_writer.proofs.elf.file_of.Goals as goal

pub returns-clause-bytes : goal.returns-clause-bytes
returns-clause-bytes c =
    assembled (record { entry = c.args.entry; segments = c.args.segments.now; entries = c.args.places.now })
    c.file_fields.result c.strings.result.now c.section_names.result.now (length c.args.segments.now) c.count_of-count.result c.new-layout.result.contents
    c.new-out.result.items c.put.new.out.items c.put_programs.new.out.items c.put_sections.new.out.items c.put_symbols.new.out.items c.extend_from_slice.new.self.items c.extend_from_slice-2.new.self.items c.put_contents.new.out.items
    refl c.count_of-count.ensures.value c.new-layout.ensures.contents c.file_fields.ensures c.strings.ensures c.section_names.ensures
    c.new-out.ensures.items c.in_ok-put.ensures c.in_ok-put_programs.ensures c.in_ok-put_sections.ensures c.in_ok-put_symbols.ensures.bytes
    c.in_ok-extend_from_slice.ensures.items c.in_ok-extend_from_slice-2.ensures.items c.in_ok-put_contents.ensures
