use Rattle.std.proofs.Common.{◌≡◌, ◌*◌, length, drop, sym, arith}
use Rattle.std.proofs.lemmas.List.{take_at}
use Rattle.hextile.specs.Tiles.{tiles_of}
use Rattle.hextile.proofs.SoundLemmas.{Tells}
use Rattle.hextile.proofs.RectangleLemmas.{are_bytes, decodes, bad_stop, bad_rest, stop_left, rest_left, empty_is}
use Rattle.hextile.proofs.UniqueLemmas.{one_meaning}
use Rattle.hextile.proofs.decoding.decode.Goals as goal

pub overflow_sub-result : goal.overflow_sub-result
overflow_sub-result c =
    let read = rw (c.from.ensures, c.from-2.ensures) at c.in-Ok.ensures in
    rest_left c.args.format.now c.args.w c.args.h c.args.bytes.now (tiles_of c.args.w c.args.h c.read_tiles.new.values) c.in-Ok.rest.now read

pub overflow_sub-result-in-Err : goal.overflow_sub-result-in-Err
overflow_sub-result-in-Err c =
    let read = rw (c.from.ensures, c.from-2.ensures) at c.in-Err.ensures in
    stop_left c.args.format.now c.args.w c.args.h c.args.bytes.now c.in-Err.fault.left read

pub returns-in-Ok-empty-clause-values : goal.returns-in-Ok-empty-clause-values
returns-in-Ok-empty-clause-values c =
    let f = c.args.format.now in
    let format = c.bytes-pixel_bytes.ensures.format in
    let tells : Tells f = record { format = format; value = λ v. c.bytes_tell_value.ensures.value f v format; bytes = λ bs. c.bytes_tell_value.ensures.bytes f bs format } in
    let are = are_bytes c.args.bytes.now (λ i. omega (arith, (c.type_inv.bytes i).fits)) in
    let read = rw (c.from.ensures, c.from-2.ensures) at c.in-Ok-empty.ensures in
    let v = c.read_tiles.new.values in
    let all = rw (c.from.ensures, c.from-2.ensures) at c.in_ok-values.ensures.len in
    let len : c.in_ok-values.values.len ≡ length v = omega (arith, c.deref_mut.ensures.len) in
    let n : length v ≡ c.args.h * c.args.w = omega (arith, all, len) in
    let same = take_at v (drop (length v) c.in_ok-values.values.items) c.in_ok-values.values.len (sym len) in
    let last = empty_is c.in-Ok-empty.field-0.now (omega (arith, c.in-Ok-empty.len_below)) in
    rw same (decodes f c.args.w c.args.h c.args.bytes.now v tells are n (rw last at read))

pub returns-in-Ok-clause-refused : goal.returns-in-Ok-clause-refused
returns-in-Ok-clause-refused c =
    let f = c.args.format.now in
    let format = c.bytes-pixel_bytes.ensures.format in
    let tells : Tells f = record { format = format; value = λ v. c.bytes_tell_value.ensures.value f v format; bytes = λ bs. c.bytes_tell_value.ensures.bytes f bs format } in
    let are = are_bytes c.args.bytes.now (λ i. omega (arith, (c.type_inv.bytes i).fits)) in
    let read = rw (c.from.ensures, c.from-2.ensures) at c.in-Ok.ensures in
    bad_rest f c.args.w c.args.h c.args.bytes.now (tiles_of c.args.w c.args.h c.read_tiles.new.values) c.in-Ok.rest.now tells are c.in-Ok.len_at_least read

pub returns-in-Err-clause-refused : goal.returns-in-Err-clause-refused
returns-in-Err-clause-refused c =
    let f = c.args.format.now in
    let format = c.bytes-pixel_bytes.ensures.format in
    let tells : Tells f = record { format = format; value = λ v. c.bytes_tell_value.ensures.value f v format; bytes = λ bs. c.bytes_tell_value.ensures.bytes f bs format } in
    let are = are_bytes c.args.bytes.now (λ i. omega (arith, (c.type_inv.bytes i).fits)) in
    let read = rw (c.from.ensures, c.from-2.ensures) at c.in-Err.ensures in
    bad_stop f c.args.w c.args.h c.args.bytes.now c.in-Err.fault.left tells are read

pub returns-in-Ok-empty-clause-only : goal.returns-in-Ok-empty-clause-only
returns-in-Ok-empty-clause-only c = λ meant means.
    let f = c.args.format.now in
    let format = c.bytes-pixel_bytes.ensures.format in
    let tells : Tells f = record { format = format; value = λ v. c.bytes_tell_value.ensures.value f v format; bytes = λ bs. c.bytes_tell_value.ensures.bytes f bs format } in
    one_meaning f c.args.w c.args.h c.args.bytes.now _ meant tells (returns-in-Ok-empty-clause-values c) means

pub returns-in-Ok-clause-only : goal.returns-in-Ok-clause-only
returns-in-Ok-clause-only c = λ meant means. absurd ((returns-in-Ok-clause-refused c).none meant means)

pub returns-in-Err-clause-only : goal.returns-in-Err-clause-only
returns-in-Err-clause-only c = λ meant means. absurd ((returns-in-Err-clause-refused c).none meant means)
