use Rattle.std.proofs.Common.{◌≤◌, length, sym, arith}
use Rattle.scene.specs.Clips.{deepest_level}
use Rattle.scene.proofs.ancestors.spot_on.Goals as goal

-- the path is no longer than a window can lie deep
short : (c : goal.After-add) → length c.add.new.path.items ≤ deepest_level
short c = omega (arith, c.add.ensures.count, c.in-Some.ensures.room)

still_short : (c : goal.After-add-in-Some-outer_of) → length c.add-in-Some-outer_of.new.path.items ≤ deepest_level
still_short c = omega (arith, c.add-in-Some-outer_of.ensures.count, c.in-Some-outer_of.ensures.room)

pub returns-in-Some-clause-corner : goal.returns-in-Some-clause-corner
returns-in-Some-clause-corner c = sym (c.add.ensures.spot.corner deepest_level (short c))

pub returns-in-Some-clause-clip : goal.returns-in-Some-clause-clip
returns-in-Some-clause-clip c = sym (c.add.ensures.spot.clip deepest_level (short c))

pub returns-in-Some-outer_of-clause-corner : goal.returns-in-Some-outer_of-clause-corner
returns-in-Some-outer_of-clause-corner c = sym (c.add-in-Some-outer_of.ensures.spot.corner deepest_level (still_short c))

pub returns-in-Some-outer_of-clause-clip : goal.returns-in-Some-outer_of-clause-clip
returns-in-Some-outer_of-clause-clip c = sym (c.add-in-Some-outer_of.ensures.spot.clip deepest_level (still_short c))
