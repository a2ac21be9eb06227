-- The line of a region heartbeat (own choice): `beat S D NOW R START END CONF VER LEADER PEERS [DOWN] [PENDING]`.
use Rattle.std.specs.Prelude.{ℕ, List, [], ◌∷◌, codes, length, take, nat_lt, Result, Ok, Err, if◌then◌else◌}
use Rattle.std.specs.Str.{bytes_eq}
use Rattle.pd_types.specs.declared.region.Epoch.{Epoch}
use Rattle.pd_types.specs.declared.region.RegionBeat.{RegionBeat}
use Rattle.pd_types.specs.declared.request.Request.TheVariants.{Beat}
use Rattle.pd_script.specs.Forms.{downs_of, key_form, peers_of, pending_of}
use Rattle.pd_lines.specs.Words.{and_then}
use Rattle.pd_script.specs.Places.{read_place}
use Rattle.pd_script.specs.StoreLines.{head_of}
use Rattle.pd_script.specs.declared.ask.Asked.{Asked}
use Rattle.pd_script.specs.declared.ask.Head.{Head}
use Rattle.pd_script.specs.declared.beats.Troubled.{Troubled}
use Rattle.pd_script.specs.declared.place.Place.TheVariants.{Id, Version}
use Rattle.pd_script.specs.declared.refusal.Reason.{Reason}
use Rattle.pd_script.specs.declared.refusal.Reason.TheVariants.{ExtraWord, MissingWord}

-- both numbers of an epoch
abbrev pub epoch_of : List ℕ → List ℕ → Result Epoch Reason
epoch_of conf_ver version = and_then (read_place Version conf_ver) (λ c. and_then (read_place Version version) (λ v. Ok (record { conf_ver = c; version = v })))

-- a region heartbeat without the peers that are down or pending
abbrev pub region_of : List ℕ → List ℕ → List ℕ → List ℕ → List ℕ → List ℕ → List ℕ → Result RegionBeat Reason
region_of id start end conf_ver version leader peers =
    and_then (read_place Id id) (λ r. and_then (key_form start) (λ s. and_then (key_form end) (λ e. and_then (epoch_of conf_ver version) (λ p.
    and_then (read_place Id leader) (λ l. and_then (peers_of peers) (λ ps.
    Ok (record { region = record { id = r; start = s; end = e; epoch = p; peers = ps }; leader = l; down = []; pending = [] })))))))

-- one such word, of either kind
abbrev pub either_of : List ℕ → Result Troubled Reason
either_of word = if bytes_eq (take 8 word) (codes "pending=") then and_then (pending_of word) (λ p. Ok (record { down = []; pending = p })) else and_then (downs_of word) (λ d. Ok (record { down = d; pending = [] }))

-- none, either or both of `down=` and `pending=`, in this order
abbrev pub troubled_of : List (List ℕ) → Result Troubled Reason
troubled_of [] = Ok (record { down = []; pending = [] })
troubled_of (word ∷ []) = either_of word
troubled_of (down ∷ pending ∷ rest) = and_then (downs_of down) (λ d. and_then (pending_of pending) (λ p. Ok (record { down = d; pending = p })))

-- a region heartbeat
abbrev pub reported : Result Head Reason → Result RegionBeat Reason → Result Troubled Reason → Result Asked Reason
reported head beat troubled = and_then head (λ h. and_then beat (λ b. and_then troubled (λ t. Ok (record { driver = h.driver; request = Beat h.store h.moment (record b { down = t.down; pending = t.pending }) }))))

-- the words of `beat`; the count of words is tested before any of them
abbrev pub beat_of : List (List ℕ) → Result Asked Reason
beat_of (store ∷ driver ∷ moment ∷ id ∷ start ∷ end ∷ conf_ver ∷ version ∷ leader ∷ peers ∷ more) =
    if nat_lt 2 (length more) then Err ExtraWord else reported (head_of store driver moment) (region_of id start end conf_ver version leader peers) (troubled_of more)
beat_of _ = Err MissingWord
