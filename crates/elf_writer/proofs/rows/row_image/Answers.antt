-- What is pushed is the row image, which is an image.
use Rattle.std.proofs.Common.{◌≡◌, ◌∙◌}
use Rattle.elf_image.specs.Layout.{ImageData}
use Rattle.elf_writer.specs.RowImage.{row_data}
use Rattle.elf_writer.proofs.RowImages.{code_is, data_is, row_is, row_made}
use Rattle.elf_writer.proofs.rows.row_image.Goals as goal

pub invariant_of-code : goal.invariant_of-code
invariant_of-code c = rw c.in_ok-bytes_from.ensures (code_is c.args.pieces.now)

pub invariant_of-data : goal.invariant_of-data
invariant_of-data c = rw c.in_ok-bytes_from-2.ensures (data_is c.args.pieces.now)

pub make-requires : goal.make-requires
make-requires c =
    let made : ImageData = record { entry = 0x40_1000; segments = c.push-2.new.self.items; entries = c.in_ok-places.field-0.items } in
    let same : made ≡ row_data c.args.pieces.now = row_made c.args.pieces.now c.in_ok-bytes_from.field-0.items c.in_ok-bytes_from-2.field-0.items c.in_ok-segments.segments.items c.push.new.self.items c.push-2.new.self.items c.in_ok-places.field-0.items c.in_ok-bytes_from.ensures c.in_ok-bytes_from-2.ensures c.in_ok-segments.ensures.items c.in_ok-push.ensures.items c.in_ok-push-2.ensures.items c.in_ok-places.ensures in
    rw same (row_is c.args.pieces.now)

pub returns-clause-row : goal.returns-clause-row
returns-clause-row c = c.in_ok-make.ensures ∙ row_made c.args.pieces.now c.in_ok-bytes_from.field-0.items c.in_ok-bytes_from-2.field-0.items c.in_ok-segments.segments.items c.push.new.self.items c.push-2.new.self.items c.in_ok-places.field-0.items c.in_ok-bytes_from.ensures c.in_ok-bytes_from-2.ensures c.in_ok-segments.ensures.items c.in_ok-push.ensures.items c.in_ok-push-2.ensures.items c.in_ok-places.ensures
