use Rattle.std.proofs.Common.{◌≡◌, None, rules}
use Rattle.std.specs.Prelude.{string_bytes, map}
use Rattle.guest_map.specs.Layout.{first_clash}
use Rattle.guest_map.proofs.LayoutLemmas.{pieces_apart, pieces_low}
use Rattle.guest_map.proofs.start.lay_out.Goals as goal

pub make-requires-clause-apart : goal.make-requires-clause-apart
make-requires-clause-apart c =
    let free : first_clash c.args.image.now ≡ None = search rules in
    rw c.in_ok-pieces.ensures (pieces_apart c.args.image.now (map string_bytes c.args.args.now) c.facts.ensures (free, c.in-Some-size_of_strings.ensures.1))

pub make-requires-clause-low : goal.make-requires-clause-low
make-requires-clause-low c =
    let free : first_clash c.args.image.now ≡ None = search rules in
    rw c.in_ok-pieces.ensures (pieces_low c.args.image.now (map string_bytes c.args.args.now) c.facts.ensures (free, c.in-Some-size_of_strings.ensures.1))
