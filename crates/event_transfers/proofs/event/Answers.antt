use Rattle.event_transfers.proofs.Events.{event_is, lay_grown}
use Rattle.event_transfers.specs.Packed.{alight_keys, laid, lay, prepared}
use mathlib.Core.Path.{◌∙◌, ap}
use Prim.Native.Nat.{◌+◌, ℕ}
use Rattle.event_transfers.proofs.event.Goals as goal

pub put_run-requires : goal.put_run-requires
put_run-requires c =
    let rest = lay_grown _ _ _ _ _ _ c.alight-r.ensures c.requires.event_at.few in record { e_bound = c.requires.event_at.event; n_bound = rest.0; r_bound = rest.1 }

pub returns : goal.returns
returns c =
    record { area_walk = event_is _ _ _ _ _ _ _ _ _ (c.alight-r.ensures ∙ ap (λ (f : ℕ). lay c.args.time (alight_keys (prepared c.args.tables.now c.args.c c.args.runs.now c.args.work.now c.args.time) c.args.ti (f + c.args.off)) (laid c.args.n c.args.area.now)) c.trip.ensures.value) c.put_run.ensures; bound = (lay_grown _ _ _ _ _ _ c.alight-r.ensures c.requires.event_at.few).1 }
