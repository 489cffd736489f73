-- The rooms as data have a code, as a model's value needs one.
use Rattle.std.specs.Prelude.{ℕ, refl}
use Rattle.std.specs.Ordering.{nat_cmp}
use Rattle.std.specs.FinMap.{FinMap, code}
use Rattle.std.specs.Coded.{Coded, code_by, coded×, coded_ℕ}
use Rattle.sync_more.specs.declared.state.Phase.{Phase}
use Rattle.sync_more.specs.declared.state.Sleepers.{Sleepers}
use Rattle.sync_more.specs.declared.state.Barrier.{Barrier}
use Rattle.sync_more.specs.declared.state.Control.{Control}
use Rattle.sync_more.specs.contracts.state.Phase as phase
use Rattle.sync_more.specs.contracts.state.Sleepers as sleepers
use Rattle.sync_more.specs.contracts.state.Barrier as barrier
use Rattle.sync_more.specs.contracts.state.Control as control
use Rattle.sync_more.specs.Rooms.{RoomsData, RoomsView}

abbrev pub rooms_code : Coded RoomsData
rooms_code =
    code_by (FinMap nat_cmp Sleepers × (FinMap nat_cmp Barrier × (FinMap nat_cmp Control × (FinMap nat_cmp Phase × ℕ))))
    (coded× (code coded_ℕ sleepers.the_row.coded) (coded× (code coded_ℕ barrier.the_row.coded) (coded× (code coded_ℕ control.the_row.coded) (coded× (code coded_ℕ phase.the_row.coded) coded_ℕ))))
    (λ r. (r.sleepers, (r.barriers, (r.controls, (r.phases, r.rounds)))))
    (λ p. record { sleepers = p.0; barriers = p.1.0; controls = p.1.1.0; phases = p.1.1.1.0; rounds = p.1.1.1.1 }) (λ _. refl)

abbrev pub view_code : Coded RoomsView
view_code = code_by (RoomsData × ℕ) (coded× rooms_code coded_ℕ) (λ v. (v.state, v.room)) (λ p. record { state = p.0; room = p.1 }) (λ _. refl)
