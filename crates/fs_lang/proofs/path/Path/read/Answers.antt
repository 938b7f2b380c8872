use Rattle.std.proofs.Common.{◌≡◌, ◌≤◌, length, true, arith}
use Rattle.rh_base.specs.declared.limits.TheConstants.{PATH_BYTES, PATH_SEGMENTS}
use Rattle.fs_lang.specs.Reading.{begins_with_slash}
use Rattle.fs_lang.proofs.Bytes.{utf8_bytes}
use Rattle.fs_lang.proofs.PathLaws.{path_read}
use Rattle.fs_lang.proofs.path.Path.read.Goals as goal

pub invariant_of-result : goal.invariant_of-result
invariant_of-result c =
    let short : length c.args.text.now ≤ PATH_BYTES = omega arith in
    let slash : begins_with_slash c.args.text.now ≡ true = cc in
    let shallow : length c.in_ok-segments.segments ≤ PATH_SEGMENTS = omega arith in
    (path_read c.args.text.now c.in_ok-segments.segments (utf8_bytes c.args.text.now c.utf8.text) short slash c.in_ok-segments.ensures shallow).segments

pub returns-clause-found : goal.returns-clause-found
returns-clause-found c =
    let short : length c.args.text.now ≤ PATH_BYTES = omega arith in
    let slash : begins_with_slash c.args.text.now ≡ true = cc in
    let shallow : length c.in_ok-segments.segments ≤ PATH_SEGMENTS = omega arith in
    path_read c.args.text.now c.in_ok-segments.segments (utf8_bytes c.args.text.now c.utf8.text) short slash c.in_ok-segments.ensures shallow
