use Rattle.std.proofs.Common.{length}
use Rattle.std.proofs.lemmas.Bool.{ltb-true}
use Rattle.pixel_format.specs.Formats.{byte_count}
use Rattle.hextile.specs.Encoding.{subrects}
use Rattle.hextile.proofs.BucketLemmas.{different_few, surely_longer}
use Rattle.hextile.proofs.tile.has_many.Goals as goal

pub returns : goal.returns
returns c = λ yes w back tile point.
    let points = c.args.points.now in
    let long = rw c.bytes-bytes.ensures.value at (ltb-true _ _ yes) in
    surely_longer (length points) (byte_count c.args.format.now) c.count_buckets-count.result (length (subrects w back points)) long (different_few w back c.count_buckets-count.result points tile point c.count_buckets-count.ensures.few)
