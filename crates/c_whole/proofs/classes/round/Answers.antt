use Rattle.std.proofs.Common.{map, refl, sym}
use Rattle.c_tree.specs.TypedOf.{unit_of}
use Rattle.c_whole.specs.Classes.{rows_of, leader_in, other_in}
use Rattle.c_whole.proofs.Numbers.{numbered_by, coarse_by_round}
use Rattle.c_whole.proofs.classes.round.Goals as goal

pub returns-then-all_stay : goal.returns-then-all_stay
returns-then-all_stay c = record {
  round = numbered_by (map unit_of c.args.units.now) (rows_of c.args.list.now) (rows_of c.args.list.now) (leader_in c.in_ok-leaders.leaders) refl (sym c.if-all_stay.ensures) c.requires.coarse;
}

pub returns : goal.returns
returns c = record {
  round =
      coarse_by_round (map unit_of c.args.units.now) (rows_of c.args.list.now) (rows_of c.args.list.now) (rows_of c.in_ok-rows.rows.items) (leader_in c.in_ok-leaders.leaders)
      (other_in c.in_ok-others.others) refl c.in_ok-rows.ensures.rows c.requires.coarse;
}
