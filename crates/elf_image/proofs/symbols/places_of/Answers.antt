use Rattle.std.proofs.Common.{◌≡◌, ◌/◌, ap, ◌∙◌, arith}
use Rattle.std.specs.List.{filter_map}
use Rattle.elf_image.specs.Library.{place_of}
use Rattle.elf_image.proofs.Placing.{places_more, all_symbols}
use Rattle.elf_image.proofs.symbols.places_of.Goals as goal

pub loop-n-preserved : goal.loop-n-preserved
loop-n-preserved c = places_more c.args.strings.now c.args.bytes.now c.args.symbols.offset c.loop-n.n c.read_symbol-s.result c.loop-n.places.items _ c.loop-n.invariant c.read_symbol-s.ensures c.in_ok-push_place.ensures

pub returns : goal.returns
returns c =
    let all : c.loop-n.n ≡ c.args.symbols.size / 24 = omega (arith, c.loop-n-test.false, c.loop-n.auto.n-end) in
    c.loop-n.invariant ∙ ap (filter_map (place_of c.args.strings.now)) (all_symbols c.args.bytes.now c.args.symbols c.loop-n.n all)
