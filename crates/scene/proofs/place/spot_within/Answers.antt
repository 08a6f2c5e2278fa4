use Rattle.scene.proofs.place.spot_within.Goals as goal

pub clip_within-requires : goal.clip_within-requires
clip_within-requires c = c.corner_within-corner.ensures.fits 7 c.requires
