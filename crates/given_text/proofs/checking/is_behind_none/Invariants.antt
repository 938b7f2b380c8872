use Rattle.std.proofs.Common.{◌↔◌, drop}
use Rattle.given_links.specs.Links.{IsBehindNone}
use Rattle.given_text.proofs.checking.is_behind_none.Given as goal

-- it lies behind none of those that are left just where it lies behind none
abbrev pub invariant-loop-link : goal.invariant-loop-link
invariant-loop-link l = IsBehindNone l.p (drop l.link-index l.links) ↔ IsBehindNone l.p l.links
