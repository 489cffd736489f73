use Rattle.std.proofs.Common.{sym, ◌∙◌}
use Rattle.elf_image.proofs.Tables.{dynamic_of_all, dynamic_skips, dynamic_found, dynamic_absent}
use Rattle.elf_image.proofs.loading.dynamic_range.Goals as goal

pub loop-n-init : goal.loop-n-init
loop-n-init c = dynamic_of_all c.args.bytes.now c.read_file_header-file.result c.read_file_header-file.ensures

pub loop-n-preserved : goal.loop-n-preserved
loop-n-preserved c = dynamic_skips c.args.bytes.now c.read_file_header-file.result c.loop-n.n c.read_program_header-h.result c.loop-n-test.true c.read_program_header-h.ensures (sym c.is_dynamic_segment.ensures ∙ c.if-is_dynamic_segment.false) c.loop-n.invariant

pub returns-then-is_dynamic_segment : goal.returns-then-is_dynamic_segment
returns-then-is_dynamic_segment c = dynamic_found c.args.bytes.now c.read_file_header-file.result c.loop-n.n c.read_program_header-h.result c.loop-n-test.true c.read_program_header-h.ensures (sym c.is_dynamic_segment.ensures ∙ c.if-is_dynamic_segment.true) c.loop-n.invariant

pub returns : goal.returns
returns c = dynamic_absent c.args.bytes.now c.read_file_header-file.result c.loop-n.n c.loop-n-test.false c.loop-n.invariant
