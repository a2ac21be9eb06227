-- What the fields of a seat in memory mean.
use Rattle.std.specs.Prelude.{◌≡◌, ◌+◌, ◌≤◌, [], vec_len, vec_capacity}
use Rattle.tso_model.specs.History.{greatest}
use Rattle.tso_core.specs.Cached.{AreSums}
use Rattle.tso_core.specs.Seated.{Seated}
use Rattle.tso_core.specs.declared.seat.Seat.TheInside.{Inside}

-- the view and the room
abbrev pub seated_of : Inside → Seated
seated_of s = record {
  view = record {
    spent = s.spent;
    opening = s.opening;
    driver = s.driver;
    client = s.client;
    give_drivers = [];
    give_clients = [];
    took_drivers = s.took_drivers.items;
    took_clients = s.took_clients.items;
    cell = s.cell;
    holds = s.holds;
    marked = s.marked;
    latest = s.latest;
    older = s.older.items;
    founds = s.founds.items;
    starts = s.starts.items;
    published = s.published.items;
    seen = s.seen;
    hand = s.hand;
    armed = s.armed;
    quota = s.quota;
    grants = s.grants.items;
    looks = s.looks.items;
    refusals = s.refusals.items;
    added = s.added.items;
  };
  spare = s.spare;
}

-- each list has room for so many more entries, and what is kept beside the lists is right
pub record IsKept (s : Inside) : Type 0 where
  pub took_drivers : vec_len s.took_drivers + s.spare ≤ vec_capacity s.took_drivers
  pub took_clients : vec_len s.took_clients + s.spare ≤ vec_capacity s.took_clients
  pub older : vec_len s.older + s.spare ≤ vec_capacity s.older
  pub founds : vec_len s.founds + s.spare ≤ vec_capacity s.founds
  pub starts : vec_len s.starts + s.spare ≤ vec_capacity s.starts
  pub published : vec_len s.published + s.spare ≤ vec_capacity s.published
  pub grants : vec_len s.grants + s.spare ≤ vec_capacity s.grants
  pub looks : vec_len s.looks + s.spare ≤ vec_capacity s.looks
  pub refusals : vec_len s.refusals + s.spare ≤ vec_capacity s.refusals
  pub added : vec_len s.added + s.spare ≤ vec_capacity s.added
  pub greatest_start : s.greatest_start ≡ greatest s.driver s.starts.items
  pub sums : AreSums s.client s.added.items s.sums
