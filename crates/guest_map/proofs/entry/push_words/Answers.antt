use Rattle.std.proofs.Common.{arith}
use Rattle.std.specs.Prelude.{string_bytes}
use Rattle.guest_map.proofs.EntryLemmas.{words_of}
use Rattle.guest_map.proofs.entry.push_words.Goals as goal

pub push_pointers-requires : goal.push_pointers-requires
push_pointers-requires c = omega (arith, c.requires.short, c.requires.base)

pub returns : goal.returns
returns c = rw (c.in_ok-push_word-5.ensures, c.in_ok-push_word-4.ensures, c.in_ok-push_word-3.ensures, c.in_ok-push_word-2.ensures, c.in_ok-push_pointers.ensures, c.in_ok-push_word.ensures) (words_of string_bytes c.args.args.now c.args.bytes.now.items c.args.base c.requires.base)
