use borrow.Author.Tests.{le-leb, lt-leb}
use Rattle.loops.proofs.Search.{halved_down, halved_end, halved_start, halved_up, keys_stay}
use Rattle.departure_scan.proofs.Tail.{departures_rising}
use native.Mathlib.Omega.{arith}
use Rattle.departure_scan.proofs.first_not_before.Goals as goal

pub loop-lo-init : goal.loop-lo-init
loop-lo-init c = halved_start _ _

pub row_departure-requires : goal.row_departure-requires
row_departure-requires c =
    record { counts_ok = c.requires.known.counts; slices_ok = c.requires.known.slices; runs_ok = c.requires.known.runs; row_known = rw c.departure_row.ensures (c.requires.known.known _ (omega (arith, c.loop-lo.invariant.inside))) }

pub loop-lo-preserved-then-row_departure-m : goal.loop-lo-preserved-then-row_departure-m
loop-lo-preserved-then-row_departure-m c =
    halved_up _ _ _ _ _ (keys_stay _ c.args.m _ (departures_rising _ _ _ _ c.requires)) c.loop-lo.invariant (lt-leb _ _ (rw (c.row_departure.ensures, c.departure_row.ensures) at c.if-row_departure-m.true)) (omega arith)

pub loop-lo-preserved : goal.loop-lo-preserved
loop-lo-preserved c =
    halved_down _ _ _ _ _ (keys_stay _ c.args.m _ (departures_rising _ _ _ _ c.requires)) c.loop-lo.invariant (le-leb _ _ (rw (c.row_departure.ensures, c.departure_row.ensures) at c.if-row_departure-m.false)) (omega arith) (omega arith)

pub returns : goal.returns
returns c = halved_end _ _ _ _ c.loop-lo.invariant (omega arith)
