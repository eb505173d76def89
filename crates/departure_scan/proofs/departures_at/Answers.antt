use Rattle.departure_scan.proofs.Runs.{run_fits, run_names}
use Rattle.query_input.proofs.Parts.{rows_size}
use Rattle.query_input.specs.Lent.{departure_rows, stop_runs}
use Rattle.departure_scan.proofs.departures_at.Goals as goal

pub departures_of-requires : goal.departures_of-requires
departures_of-requires c =
    run_fits (stop_runs c.args.built.now c.args.counts) (departure_rows c.args.built.now c.args.counts) _ _ c.args.x _ c.stop_runs.ensures c.stop_run-r.ensures.value c.departure_rows.ensures _ (c.requires.runs_listed.run c.args.x c.requires.x_bound) (rows_size c.args.built.now c.args.counts c.requires.marks_at)

pub returns : goal.returns
returns c =
    run_names (stop_runs c.args.built.now c.args.counts) (departure_rows c.args.built.now c.args.counts) _ _ c.args.x _ c.stop_runs.ensures c.stop_run-r.ensures.value c.departure_rows.ensures _ c.departures_of.ensures
