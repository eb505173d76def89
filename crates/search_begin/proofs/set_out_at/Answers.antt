use native.Mathlib.Omega.{arith}
use Rattle.search_begin.proofs.set_out_at.Goals as goal

pub set_out-requires : goal.set_out-requires
set_out-requires c =
    let k = c.args.k in record { starting = c.requires.starting; stop_bound = c.requires.origins.stop k c.requires.k_bound; start_bound = omega (arith, c.requires.origins.start, c.requires.origins.walk k c.requires.k_bound) }
