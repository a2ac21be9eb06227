-- The record of a store, as the metadata keeps it (metapb `Store`, kept by PD under the store's id; the spelling is our own choice): the key `store/` with the id in 20 digits, and the bytes `STATE ADDRESS LABELS`.
use Rattle.std.specs.Prelude.{◌≡◌, ℕ, ◌<◌, ◌-◌, ◌^◌, nat_eq, nat_lt, List, [], ◌∷◌, ◌++◌, codes, drop, length, replicate, true, ◌&&◌, Option, Some, None, if◌then◌else◌}
use Rattle.std.specs.Fmt.{decimal}
use Rattle.std.specs.List.{slice_split}
use Rattle.std.specs.Option.{option_and_then, option_map}
use Rattle.std.specs.Str.{bytes_eq}
use Rattle.std.specs.Str.Parse.{digits_value}
use Rattle.pd_types.specs.declared.store.Label.{Label}
use Rattle.pd_types.specs.declared.store.StoreRec.{StoreRec}
use Rattle.pd_types.specs.declared.store.StoreState.{StoreState}
use Rattle.pd_types.specs.declared.store.StoreState.TheVariants.{Up, Offline, Tombstone}
use Rattle.pd_lines.specs.declared.plain.TheConstants.{MOST_ADDRESS_BYTES}
use Rattle.pd_lines.specs.Labels.{AreLabels, labels_of, labels_text}
use Rattle.pd_lines.specs.Plain.{address_of, is_plain}

-- a store whose id is from 1 to 2^63 - 1, with an address of 1 to 64 plain characters and labels in their form
pub record IsStore (store : StoreRec) : Type 0 where
  pub some : 0 < store.id
  pub low : store.id < 2 ^ 63
  pub address : is_plain MOST_ADDRESS_BYTES store.address ≡ true
  pub labels : AreLabels store.labels

-- the state, as a word
abbrev pub state_word : StoreState → List ℕ
state_word Up = codes "up"
state_word Offline = codes "offline"
state_word Tombstone = codes "tombstone"

-- the labels, as a word; `-` where there is none
abbrev pub labels_word : List Label → List ℕ
labels_word [] = codes "-"
labels_word (label ∷ labels) = labels_text (label ∷ labels)

-- the bytes of a store's record: its state, address and labels, with a space between
abbrev pub store_bytes : StoreRec → List ℕ
store_bytes store = state_word store.state ++ 32 ∷ (store.address ++ 32 ∷ labels_word store.labels)

-- a number in 20 digits, with zeros in front
abbrev pub twenty : ℕ → List ℕ
twenty n = replicate (20 - length (decimal n)) 48 ++ decimal n

-- the key of a store's record
abbrev pub store_key : ℕ → List ℕ
store_key id = codes "store/" ++ twenty id

-- the value of the digits behind `store/`
abbrev pub key_value : List ℕ → ℕ
key_value key = digits_value 10 (drop 6 key)

-- the store whose key this is
abbrev pub id_of : List ℕ → Option ℕ
id_of key = if nat_lt 0 (key_value key) && nat_lt (key_value key) (2 ^ 63) && bytes_eq (store_key (key_value key)) key then Some (key_value key) else None

-- the state that a word is
abbrev pub state_of : List ℕ → Option StoreState
state_of word =
    if bytes_eq word (codes "up") then Some Up else
    if bytes_eq word (codes "offline") then Some Offline else
    if bytes_eq word (codes "tombstone") then Some Tombstone else None

-- the labels that a word is
abbrev pub stored_labels : List ℕ → Option (List Label)
stored_labels word = if bytes_eq word (codes "-") then Some [] else labels_of word

-- the words of a store's record
pub record Fields : Type 0 where
  pub state : List ℕ
  pub address : List ℕ
  pub labels : List ℕ

-- three words
abbrev pub fields_by : List (List ℕ) → Option Fields
fields_by (state ∷ address ∷ labels ∷ []) = Some (record { state = state; address = address; labels = labels })
fields_by _ = None

-- what stands between spaces, three words
abbrev pub fields_of : List ℕ → Option Fields
fields_of bytes = fields_by (slice_split (λ b. nat_eq b 32) bytes)

-- the store of an id and the words of its record
abbrev pub store_by : ℕ → Fields → Option StoreRec
store_by id fields =
    option_and_then (λ state. option_and_then (λ address. option_map (λ labels. record { id = id; address = address; labels = labels; state = state }) (stored_labels fields.labels)) (address_of fields.address)) (state_of fields.state)

-- the store whose record has this key and these bytes
abbrev pub store_of : List ℕ → List ℕ → Option StoreRec
store_of key bytes = option_and_then (λ id. option_and_then (store_by id) (fields_of bytes)) (id_of key)
