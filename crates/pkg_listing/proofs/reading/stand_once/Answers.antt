use Rattle.std.proofs.Common.{◌≡◌, true, false}
use Rattle.pkg_listing.proofs.ReadLaws.{twice, told_once}
use Rattle.pkg_listing.proofs.reading.stand_once.Goals as goal

pub returns-then-not-files : goal.returns-then-not-files
returns-then-not-files c =
    let told : c.in_ok-files.files ≡ false = cc in
    twice c.in_ok-files.files c.as_slice.result.now c.args.p.now.files c.args.p.now.folders c.new-seen.result c.files_are_new.new.seen c.in_ok-files.ensures told c.as_slice.ensures c.new-seen.ensures

pub returns : goal.returns
returns c =
    let told : c.in_ok-files.files ≡ true = cc in
    let kept : c.files_are_new.new.seen ≡ c.files_are_new.new.seen = cc in
    told_once c.folders_are_new.result c.in_ok-files.files c.as_slice.result.now c.args.p.now.files c.as_slice-2.result.now c.args.p.now.folders c.new-seen.result c.files_are_new.new.seen c.files_are_new.new.seen c.folders_are_new.new.seen
    c.in_ok-files.ensures told c.as_slice.ensures c.new-seen.ensures c.as_slice-2.ensures kept c.folders_are_new.ensures
