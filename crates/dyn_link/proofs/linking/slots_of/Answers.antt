use Rattle.std.proofs.Common.{◌≡◌, Some, None, sym, ◌∙◌}
use Rattle.std.specs.List.{position}
use Rattle.dyn_link.specs.Relocations.{is_bad_relocation, is_unknown}
use Rattle.dyn_link.proofs.Finding.{none_passes}
use Rattle.dyn_link.proofs.Ruled.{readable, none_bad, none_unknown, unknown_first}
use Rattle.dyn_link.proofs.linking.slots_of.Goals as goal

pub returns-in-Some-first_unknown-clause-fault : goal.returns-in-Some-first_unknown-clause-fault
returns-in-Some-first_unknown-clause-fault c =
    let bytes = c.args.bytes.now in
    let segments = c.args.image.now.segments in
    let names = c.make-names.result in
    let rs = c.in_ok-relocations.relocations.items in
    let d = rw c.in-Some.is at c.in_ok-dynamic.ensures in
    let found = c.in-Some-find_tables.ensures in
    let text = c.make-names.ensures.strings ∙ found.1 in
    let symbols = c.make-names.ensures.symbols ∙ c.unwrap_or.ensures in
    let all = c.in_ok-relocations.ensures ∙ found.2 in
    let bad : position (is_bad_relocation segments names.strings.now names.symbols) rs ≡ None = rw (← c.deref.ensures.value, ← c.first_bad.ensures) c.in_default.is in
    let unknown : position (is_unknown segments names.strings.now names.symbols) rs ≡ Some c.in-Some-first_unknown.n = rw (← c.deref-2.ensures.value, ← c.first_unknown.ensures) c.in-Some-first_unknown.is in (
      readable bytes c.args.range segments c.in-Some.dynamic d.0 d.1 (sym c.is_bad.ensures ∙ c.if-is_bad.false) found.0,
      none_bad bytes c.args.range segments c.in-Some.dynamic d.0 names.strings.now names.symbols rs text symbols all bad,
      unknown_first bytes c.args.range segments c.in-Some.dynamic d.0 names.strings.now names.symbols rs text symbols all c.in-Some-first_unknown.n unknown,
    )

pub places_of-requires : goal.places_of-requires
places_of-requires c =
    let segments = c.args.image.now.segments in
    let names = c.make-names.result in
    let rs = c.in_ok-relocations.relocations.items in
    let bad : position (is_bad_relocation segments names.strings.now names.symbols) rs ≡ None = rw (← c.deref.ensures.value, ← c.first_bad.ensures) c.in_default.is in
    rw c.deref-3.ensures.value (none_passes (is_bad_relocation segments names.strings.now names.symbols) rs bad)

pub returns-clause-linkable : goal.returns-clause-linkable
returns-clause-linkable c =
    let bytes = c.args.bytes.now in
    let segments = c.args.image.now.segments in
    let names = c.make-names.result in
    let rs = c.in_ok-relocations.relocations.items in
    let d = rw c.in-Some.is at c.in_ok-dynamic.ensures in
    let found = c.in-Some-find_tables.ensures in
    let text = c.make-names.ensures.strings ∙ found.1 in
    let symbols = c.make-names.ensures.symbols ∙ c.unwrap_or.ensures in
    let all = c.in_ok-relocations.ensures ∙ found.2 in
    let bad : position (is_bad_relocation segments names.strings.now names.symbols) rs ≡ None = rw (← c.deref.ensures.value, ← c.first_bad.ensures) c.in_default.is in
    let unknown : position (is_unknown segments names.strings.now names.symbols) rs ≡ None = rw (← c.deref-2.ensures.value, ← c.first_unknown.ensures) c.in_default-first_unknown.is in
    record {
      readable = readable bytes c.args.range segments c.in-Some.dynamic d.0 d.1 (sym c.is_bad.ensures ∙ c.if-is_bad.false) found.0;
      relocations = none_bad bytes c.args.range segments c.in-Some.dynamic d.0 names.strings.now names.symbols rs text symbols all bad;
      known = none_unknown bytes c.args.range segments c.in-Some.dynamic d.0 names.strings.now names.symbols rs text symbols all unknown;
    }
