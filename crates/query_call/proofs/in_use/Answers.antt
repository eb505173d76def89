use mathlib.Core.Path.{refl, sym, ap, subst, ◌∙◌}
use mathlib.Core.List.{List}
use Prim.Native.Nat.{ℕ}
use Rattle.arc_flags.specs.Skipping.{Transferring}
use Rattle.query_input.specs.Lent.{lent, tables_of, query_of}
use Rattle.query_types.specs.declared.Net.{Net}
use Rattle.query_call.proofs.Given.{transferring, rows_in, runs_in}
use Rattle.query_call.specs.declared.Mode.{Mode}
use Rattle.query_call.specs.Parts.{mode_by}
use Rattle.query_call.proofs.in_use.Goals as goal

pub flags_in_use-requires : goal.flags_in_use-requires
flags_in_use-requires c =
    record { sane = c.requires.sane; patterns_ok = c.requires.patterns_ok; rows_in = rows_in c.requires c.transfer_rows-transfer_rows.ensures; runs_in = runs_in c.requires c.transfer_runs-transfer_runs.ensures c.transfer_rows-transfer_rows.ensures }

pub returns-in-RunTbr : goal.returns-in-RunTbr
returns-in-RunTbr c =
    λ d q en eo. let x = (lent c.args.counts c.args.tables.now c.args.built.now c.args.transfers.now c.args.patterns.now d q) in c.use_arc_flags.ensures (tables_of x) (query_of x) refl eo (ap (λ (m : Net). m.target) en) ∙ ap (λ (m : Mode). mode_by m x) (sym c.in-RunTbr.is)

pub returns-in-Query : goal.returns-in-Query
returns-in-Query c =
    λ d q en eo. let x = (lent c.args.counts c.args.tables.now c.args.built.now c.args.transfers.now c.args.patterns.now d q) in c.flags_in_use.ensures (tables_of x) (query_of x) refl (record { size = refl; pattern = λ p h. refl }) (subst (λ (l : List ℕ). Transferring (tables_of x) l x.transfers) (sym c.transfer_runs-transfer_runs.ensures) (transferring x.n x.t x.built x.transfers x.patterns d q c.requires)) (ap (λ (m : Net). m.target) en) eo ∙ ap (λ (m : Mode). mode_by m x) (sym c.in-Query.is)
