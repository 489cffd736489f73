use Rattle.std.proofs.Common.{◌≡◌, ℕ, ◌<◌, ◌^◌, length, refl, ap, arith}
use Rattle.std.proofs.lemmas.List.{length-map}
use Rattle.std.proofs.lemmas.List.FromFn.{length-range_with_len}
use Rattle.elf_image.specs.Elf.{program_header, program_headers, table}
use Rattle.elf_image.proofs.Tables.{table_more, length-table}
use Rattle.elf_image.proofs.segments.read_program_headers.Goals as goal

pub loop-n-preserved : goal.loop-n-preserved
loop-n-preserved c = rw (c.in_ok-push.ensures.items, c.loop-n.invariant, c.read_program_header.ensures, table_more program_header c.args.file.phoff 56 c.loop-n.n c.args.bytes.now) refl

pub returns-clause-same : goal.returns-clause-same
unfolding program_headers
returns-clause-same c =
    let all : c.loop-n.n ≡ c.args.file.phnum = omega (arith, c.loop-n-test.false, c.loop-n.auto.n-end) in
    rw (c.loop-n.invariant, all, c.requires.header) refl

pub returns-clause-few : goal.returns-clause-few
returns-clause-few c =
    let all : c.loop-n.n ≡ c.args.file.phnum = omega (arith, c.loop-n-test.false, c.loop-n.auto.n-end) in
    let size = length-table program_header c.args.file.phoff 56 c.loop-n.n c.args.bytes.now in
    rw c.loop-n.invariant (omega arith)
