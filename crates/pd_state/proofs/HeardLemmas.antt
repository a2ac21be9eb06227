-- By what a store is heard, and from when its silence is counted.
use Rattle.std.proofs.Common.{◌≡◌, ◌≢◌, ℕ, List, All, Option, Some, refl, sym}
use Rattle.std.proofs.lemmas.Bool.{eq-eqb, ne_eqb}
use Rattle.std.proofs.lemmas.List.Elements.{All-map}
use Rattle.store_table.specs.declared.entry.StoreEntry.{StoreEntry}
use Rattle.store_table.specs.Live.{later}
use Rattle.pd_state.specs.State.{alive_by, began_of, heard, hello_by, part_of, store_of}
use Rattle.pd_state.specs.declared.entry.Entry.{Entry}
use Rattle.pd_state.specs.declared.reply.Reply.{Reply}
use Rattle.pd_state.specs.declared.reply.Reply.TheVariants as replies
use Rattle.pd_state.proofs.Records.{records_of}

pub heard_itself : (store moment : ℕ) (before : Option ℕ) → heard store store moment before ≡ Some (later before moment)
heard_itself store moment before = rw (eq-eqb store store refl) refl

pub heard_other : (store at moment : ℕ) (before : Option ℕ) → at ≢ store → heard store at moment before ≡ before
heard_other store at moment before other = rw (ne_eqb store at (λ same. other (sym same))) refl

pub alive_refused : (reply : Reply) (store at moment : ℕ) (before : Option ℕ) → reply ≢ replies.Alive → alive_by reply store at moment before ≡ before
alive_refused replies.Alive store at moment before other = absurd (other refl)
alive_refused _ store at moment before other = refl

pub hello_refused : (reply : Reply) (store at moment : ℕ) (before : Option ℕ) → reply ≢ replies.StorePut → hello_by reply store at moment before ≡ before
hello_refused replies.StorePut store at moment before other = absurd (other refl)
hello_refused _ store at moment before other = refl

-- each store's silence is counted from the beginning of the term
pub began_alike : (entries : List Entry) → All (λ (store : StoreEntry). store.began ≡ began_of entries) (part_of entries).stores
began_alike entries = All-map (λ (store : StoreEntry). store.began ≡ began_of entries) (store_of entries) (records_of entries) (λ k d low. refl)
