-- What is stored is what is meant.
use Rattle.std.proofs.Common.{◌≡◌, ℕ, List, ap, ◌∙◌, String, Global, string_bytes, string_cmp}
use Rattle.std.specs.BTreeMap.{insert_entry}
use Rattle.serde_json.specs.Data.{put}
use Rattle.serde_json.specs.View.{view, members_view}
use Rattle.serde_json.specs.declared.value.Value as stored
use Rattle.serde_json.proofs.Views.{Entry, members_view-insert_entry}

-- a member that is stored is put among those that are meant
pub put_among : (es new : List Entry) (k : String Global) (x : stored.Value) (key : List ℕ) → new ≡ insert_entry string_cmp es k x → string_bytes k ≡ key
    → members_view new ≡ put key (view x) (members_view es)
put_among es new k x key e key_is = ap members_view e ∙ members_view-insert_entry es k x ∙ ap (λ l. put l (view x) (members_view es)) key_is
