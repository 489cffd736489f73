use Rattle.std.proofs.Common.{refl}
use Rattle.guest_steps.specs.Own.{data_of}
use Rattle.guest_entries.proofs.Calling.{along_now, call_flushed, stops_now}
use Rattle.guest_entries.proofs.call.call.Goals as goal

pub flush_all-requires-clause-with : goal.flush_all-requires-clause-with
flush_all-requires-clause-with c = let r = c.requires.asks in (data_of c.args.own.now, r.1, r.2.going, r.2.with, refl)

pub serve-requires-clause-asks : goal.serve-requires-clause-asks
serve-requires-clause-asks c =
    let r = c.requires.asks in
    let h = c.args.hall.now in
    let n = c.flush_all.new.hall in
    let own = c.args.own.now in
    let ages = c.flush_all.new.ages in
    let f = c.flush_all.ensures.flushed (data_of own) r.1 r.2.going r.2.with refl in
    (r.0, r.1, along_now h n n c.args.t c.args.a c.args.what own own ages r.0 r.1 r.2 r.3 f c.flush_all.ensures.none, stops_now h n n c.args.t c.args.a c.args.what own own ages r.0 r.1 r.2 r.3 f c.flush_all.ensures.none)

pub returns : goal.returns
returns c = λ table d along stops.
    let h = c.args.hall.now in
    let n = c.flush_all.new.hall in
    let own = c.args.own.now in
    let ages = c.flush_all.new.ages in
    let last = c.serve.new.hall in
    let after = c.serve.new.own in
    let f = c.flush_all.ensures.flushed (data_of own) d along.going along.with refl in
    let none = c.flush_all.ensures.none in
    call_flushed h n last c.args.t c.args.a c.args.what own after ages table d along stops f none c.serve.result (c.serve.ensures table d (along_now h n last c.args.t c.args.a c.args.what own after ages table d along stops f none) (stops_now h n last c.args.t c.args.a c.args.what own after ages table d along stops f none))
