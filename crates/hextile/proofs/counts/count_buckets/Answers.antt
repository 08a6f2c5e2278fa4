use Rattle.std.proofs.Common.{◌≡◌, ◌<◌, true, false, length, refl, sym, ◌∙◌, arith}
use Rattle.hextile.specs.Buckets.{bucket_of}
use Rattle.hextile.proofs.BucketLemmas.{none_yet, bucket_taken, bucket_kept, bucket_within, taken_few}
use Rattle.hextile.proofs.counts.count_buckets.Goals as goal
use Rattle.hextile.proofs.counts.count_buckets.Goals.{then-not-taken-place, else-not-taken-place}

pub loop-x-init : goal.loop-x-init
loop-x-init c = record {
  taken = record { long = refl; count_is = refl; from = λ i here. let off : true ≡ false = sym here ∙ none_yet 1024 i in absurd (cc) };
  few = omega arith;
}

pub loop-x-preserved : goal.loop-x-preserved
loop-x-preserved c =
    let l = c.loop-x in
    let points = c.args.points.now in
    let before = l.invariant.taken in
    let within : c.bucket-place.result < length l.taken = omega (arith, before.long) in
    elim c.if-not-taken-place.branch [
      | then-not-taken-place w ↦ record {
        taken = bucket_taken bucket_of points l.taken c.if-not-taken-place.taken c.bucket-place.result l.x-index l.count c.if-not-taken-place.count within c.bucket-place.ensures.value w.if-not-taken-place.true w.taken-is w.count-is before;
        few = omega arith;
      }
      | else-not-taken-place w ↦ record {
        taken = bucket_kept bucket_of points l.taken c.if-not-taken-place.taken l.x-index l.count c.if-not-taken-place.count w.taken-is w.count-is before;
        few = omega arith;
      }
    ]

pub returns-clause-few : goal.returns-clause-few
returns-clause-few c = λ values each.
    let l = c.loop-x in
    let before = l.invariant.taken in
    omega (
      arith,
      before.count_is,
      taken_few bucket_of values l.taken (λ v. rw before.long (bucket_within v)) (λ i here.
          let old = before.from i here in
          let p = each old.0 (omega (arith, old.1)) in
          (p.0, p.1, rw p.2 old.2)),
    )
