use Rattle.std.proofs.Common.{refl, ap, ◌∙◌, ◌≡◌, map, slice_set, replicate, []}
use Rattle.std.specs.Prelude.{string_bytes}
use Rattle.guest_map.specs.Layout.{start_of as map_start}
use Rattle.machine_model.specs.CaseData.{CaseData}
use Rattle.machine_model.specs.State.{entering, no_core}
use Rattle.replay_machine.proofs.Starts.{started}
use Rattle.replay_machine.proofs.machine.Machine.start.Goals as goal

pub returns : goal.returns
returns c =
    let args : map string_bytes c.deref.result.now ≡ c.args.case.now.args = ap (map string_bytes) c.deref.ensures.value ∙ ap (λ (x : CaseData). x.args) c.case.view_is in
    let laid : c.in-Ok.start ≡ map_start c.args.case.now.image c.args.case.now.args = c.in-Ok.ensures.start ∙ ap (λ i. map_start i (map string_bytes c.deref.result.now)) c.image.ensures ∙ ap (map_start c.args.case.now.image) args in
    started c.args.case.now c.in_ok-cores.cores.items c.in-Ok.start.memory c.in_ok-library.library c.in-Ok.start c.in_ok-input.input.items laid
    (c.in_ok-cores.ensures ∙ ap (λ i. slice_set (replicate 64 no_core) 0 (record { cpu = entering i c.in-Ok.start.rsp; frames = [] })) c.image-2.ensures) refl
    c.in_ok-library.ensures
    (c.in_ok-input.ensures.items ∙ c.deref-2.ensures.value ∙ ap (λ (x : CaseData). x.input) c.case.view_is)
