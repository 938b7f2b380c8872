use Rattle.std.proofs.Common.{◌∙◌, ap₂}
use Rattle.serde_json.specs.Data.{put}
use Rattle.serde_json.specs.View.{members_view}
use Rattle.pkg_listing.proofs.StoredLaws.{next_member}
use Rattle.pkg_listing.proofs.writing.packages_json.Goals as goal

pub loop-pair-preserved : goal.loop-pair-preserved
loop-pair-preserved c =
    next_member c.args.packages.now c.loop-pair.pair-index c.pair-item.result (members_view c.loop-pair.members.entries) (members_view c.put_member.new.members.entries) c.requires.names c.loop-pair-test.true c.pair-item.is c.loop-pair.invariant
    (c.in_ok-put_member.ensures ∙ ap₂ (λ key d. put key d (members_view c.loop-pair.members.entries)) c.in_ok-name.ensures c.in_ok-package_json.ensures)
