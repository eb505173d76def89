use Rattle.std.proofs.Common.{refl, ap, ◌∙◌, ℕ, ◌+◌}
use Rattle.std.specs.Prelude.{get_or, eqb}
use Rattle.model.specs.Search.{resolve_in}
use Rattle.target_resolving.proofs.Lines.{resolve_absent, resolve_stands, stands_listed}
use Rattle.target_resolving.proofs.resolve_line.Goals as goal

pub returns-then-not-stands : goal.returns-then-not-stands
returns-then-not-stands c =
    λ T Q e g q hl m el. resolve_absent T Q e c.args.after c.args.best c.args.c c.args.lined c.args.built.now c.args.work.now c.args.line c.args.target c.args.off _ c.args.terms.line_scan _ c.stands.result hl el c.requires.line_bound c.requires.target_bound q.line_scan refl refl c.stands.ensures m c.if-not-stands.true _ (c.resolve_alone.ensures T Q g q)

pub returns : goal.returns
returns c =
    let p : ℕ = (get_or c.args.work.now (c.args.lined.positions + c.args.target) 0) in
    λ T Q e g q hl m el. resolve_stands T Q e c.args.after c.args.best c.args.c c.args.lined c.args.built.now c.args.work.now c.args.line c.args.target c.args.off _ c.args.terms.line_scan _ c.stands.result hl el c.requires.line_bound c.requires.target_bound q.line_scan refl refl c.stands.ensures m c.if-not-stands.false _
    (c.resolve_in.ensures T Q (T.line c.args.line).trip p g q (stands_listed T Q e c.args.after c.args.best c.args.c c.args.lined c.args.built.now c.args.work.now c.args.line c.args.target c.args.off _ c.args.terms.line_scan _ c.stands.result hl el c.requires.line_bound c.requires.target_bound q.line_scan refl refl c.stands.ensures _ _ c.min-k.ensures refl)
    ∙ ap (λ (k : ℕ). resolve_in T Q (eqb (get_or c.args.work.now (c.args.lined.fifo + c.args.line) 0) 1) c.args.off c.args.after c.args.best (T.line c.args.line).trip k p) c.min-k.ensures)
