use Rattle.trip_scan.proofs.Queuing.{queue_as}
use Rattle.trip_scan.proofs.Transfers.{scan_plain, scan_flagged}
use Rattle.trip_scan.proofs.Keeping.{nets_kept, netted_kept}
use Rattle.trip_scan.specs.Scan.{Nets}
use Rattle.search_state.proofs.Queue.{queue_step, queue_then}
use Rattle.trip_boarding.specs.Reads.{hit_of}
use mathlib.Core.Path.{◌∙◌, sym}
use native.Mathlib.Omega.{arith}
use Rattle.query_types.specs.Slices.{slices}
use Rattle.trip_scan.proofs.scan_trip_forward.Goals as goal

pub alightings-x-requires : goal.alightings-x-requires
alightings-x-requires c = record { riding = c.requires.riding; ready = c.requires.ready }

pub shape_of-work-then-not-s : goal.shape_of-work-then-not-s
shape_of-work-then-not-s c = c.alightings-x.ensures.same.size

pub shape_of-labels-then-not-s : goal.shape_of-labels-then-not-s
shape_of-labels-then-not-s c = c.alightings-x.ensures.ready.sized.rows ∙ sym c.requires.ready.sized.rows

pub shape_of-label_distances-then-not-s : goal.shape_of-label_distances-then-not-s
shape_of-label_distances-then-not-s c = c.alightings-x.ensures.ready.sized.metres ∙ sym c.requires.ready.sized.metres

pub returns-then-not-s : goal.returns-then-not-s
returns-then-not-s c =
    let r = c.args.s.ride in queue_as _ (queue_step c.args.queue.now c.alightings-x.ensures c.requires.is_open.none c.requires.is_open.room) (λ T Q y. record { agree = y.agree; egress = y.egress }) (λ T Q y. scan_plain T Q r.stamp (hit_of c.args.s.adj) r.shift r.trip r.stop r.offset c.args.s.context.flagged _ c.if-not-s.true)

pub transferring-requires : goal.transferring-requires
transferring-requires c =
    let r = c.args.s.ride in record { netted = netted_kept c.alightings-x.ensures.same c.requires.netted; riding = c.requires.riding; ready = c.alightings-x.ensures.ready; is_open = record { none = c.alightings-x.ensures.full ∙ c.requires.is_open.none; room = omega (arith, c.alightings-x.ensures.queued, c.requires.is_open.room) } }

pub shape_of-work : goal.shape_of-work
shape_of-work c = c.transferring.ensures.same.size ∙ c.alightings-x.ensures.same.size

pub shape_of-labels : goal.shape_of-labels
shape_of-labels c = c.transferring.ensures.ready.sized.rows ∙ sym c.requires.ready.sized.rows

pub shape_of-label_distances : goal.shape_of-label_distances
shape_of-label_distances c = c.transferring.ensures.ready.sized.metres ∙ sym c.requires.ready.sized.metres

pub shape_of-queue : goal.shape_of-queue
shape_of-queue c = c.transferring.ensures.size

pub returns : goal.returns
returns c =
    let r = c.args.s.ride in queue_as _ (queue_then (Nets c.args.s.context (slices c.args.tables.now c.args.delay_rows.now c.args.stop_rows.now c.args.built.now c.args.patterns.now c.args.transfers.now) c.args.work.now) (queue_step c.args.queue.now c.alightings-x.ensures c.requires.is_open.none c.requires.is_open.room) (c.alightings-x.ensures.full ∙ c.requires.is_open.none) c.transferring.ensures (λ T Q y. (record { agree = y.agree; egress = y.egress }, nets_kept c.alightings-x.ensures.same c.requires.netted.past y))) (λ T Q y. y) (λ T Q y. scan_flagged T Q r.stamp (hit_of c.args.s.adj) r.shift r.trip r.stop r.offset c.args.s.context.flagged _ c.if-not-s.false)
