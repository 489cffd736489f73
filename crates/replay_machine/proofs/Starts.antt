-- The machine before the first step, part by part.
use Rattle.std.proofs.Common.{◌≡◌, ℕ, List, [], None, refl, replicate, slice_set}
use Rattle.guest_map.specs.declared.start.Start.{Start}
use Rattle.guest_map.specs.Layout.{start_of as map_start}
use Rattle.lib_table.specs.Library.{LibraryData, start_of as library_start}
use Rattle.tso_memory.specs.Tso.{TsoState}
use Rattle.machine_model.specs.CaseData.{CaseData}
use Rattle.machine_model.specs.State.{Core, Machine, entering, no_core, start}

abbrev machine_with : List Core → TsoState → LibraryData → Machine
machine_with cores memory library = record { cores = cores; tso = memory; library = library; steps = 0; ending = None }

pub started : (c : CaseData) (cores : List Core) (memory : TsoState) (library : LibraryData) (s : Start) (input : List ℕ) → s ≡ map_start c.image c.args → cores ≡ slice_set (replicate 64 no_core) 0 (record { cpu = entering c.image s.rsp; frames = [] }) → memory ≡ s.memory → library ≡ library_start input → input ≡ c.input → machine_with cores memory library ≡ start c
unfolding start
started c cores memory library s input e f g h k = rw (f, g, h, k, e) refl
