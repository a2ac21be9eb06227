-- What each driver begins with, one after the other.
use Rattle.std.proofs.Common.{Vec, Global, ◌≡◌, ℕ, suc, ◌+◌, ◌<◌, List, [], ◌∷◌, ◌++◌, get_or, length, map, refl, sym, ap, ◌∙◌, arith, subst, append_assoc}
use mathlib.Core.Bool.{true≢false}
use Rattle.std.specs.Prelude.{IsSome, Option, Some, None, option_to_list, remove, ◌↔◌}
use Rattle.std.proofs.lemmas.List.{length-append, map-append}
use Rattle.pd_run.proofs.Lists.{head_or, rest_of}
use Rattle.tso_board.specs.declared.seat.DriverSeat.{DriverSeat}
use Rattle.tso_model.specs.Moves.{numbers_from}
use Rattle.tso_run.proofs.Rows.{numbered, rows_length}
use Rattle.meta_store.specs.Seats.{SeatValue}
use Rattle.pd_run.specs.Starts.{AreDealt, AreHandedOut}
use Rattle.pd_run.specs.declared.begin.Start.{Start}
use Rattle.pd_run.specs.declared.line.DriverLine.{DriverLine}
use Rattle.pd_run.specs.declared.pipe.Pipe.{Pipe}

handed_none : (metas : List SeatValue) → 0 < length metas → AreHandedOut [] metas metas
handed_none [] some_seat = absurd (omega (arith, some_seat))
handed_none (s ∷ metas) some_seat = record { first = s; others = metas; old_are = refl; new_are = refl }

-- the second seat is handed out
handed_more : (given : List SeatValue) (all old new : List SeatValue) (seat : SeatValue) → AreHandedOut given all old → 1 < length old → seat ≡ get_or old 1 seat → new ≡ remove old 1 → AreHandedOut (given ++ seat ∷ []) all new
handed_more given all old new seat h more is rest = by h.others h.old_are h.new_are
  where
    by : (others : List SeatValue) → all ≡ h.first ∷ (given ++ others) → old ≡ h.first ∷ others → AreHandedOut (given ++ seat ∷ []) all new
    by [] old_are new_are = absurd (let e : length old ≡ 1 = ap length new_are in omega (arith, more, e))
    by (s ∷ others) old_are new_are =
        let same : seat ≡ s = is ∙ ap (λ l. get_or l 1 seat) new_are in record {
          first = h.first;
          others = others;
          old_are = old_are ∙ (λ i. h.first ∷ (given ++ sym same i ∷ others)) ∙ ap (λ l. h.first ∷ l) (sym (append_assoc given (seat ∷ []) others));
          new_are = rest ∙ ap (λ l. remove l 1) new_are;
        }

module _ {B : Type 0} where
  -- so far the first drivers have what they begin with
  pub record Begun (seats : List DriverSeat) (seats_left : List DriverSeat) (pipes pipes_left : List (Vec Pipe Global)) (lines lines_left : List (Vec DriverLine Global)) (metas metas_left : List SeatValue) (benches benches_left : List B) (driver : ℕ) (starts : List (Start B)) : Type 0 where
    pub oracle : map (λ (s : Start B). s.oracle) starts ++ seats_left ≡ seats
    pub pipes_are : map (λ (s : Start B). s.pipes) starts ++ pipes_left ≡ pipes
    pub lines_are : map (λ (s : Start B). s.lines) starts ++ lines_left ≡ lines
    pub numbers : map (λ (s : Start B). s.driver) starts ≡ numbers_from 1 driver
    pub count : length starts ≡ driver
    pub given : AreHandedOut (map (λ (s : Start B). s.meta) starts) metas metas_left
    pub dealt : AreDealt benches (map (λ (s : Start B). s.bench) starts) benches_left

  pub begun_none : (seats left : List DriverSeat) (pipes pipes_left : List (Vec Pipe Global)) (lines lines_left : List (Vec DriverLine Global)) (metas : List SeatValue) (benches : List B) (starts : List (Start B)) → left ≡ seats → pipes_left ≡ pipes → lines_left ≡ lines → 0 < length metas → starts ≡ []
      → Begun seats left pipes pipes_left lines lines_left metas metas benches benches 0 starts
  begun_none seats left pipes pipes_left lines lines_left metas benches starts same_seats same_pipes same_lines some_seat none =
      subst (Begun seats left pipes pipes_left lines lines_left metas metas benches benches 0) (sym none) (record { oracle = same_seats; pipes_are = same_pipes; lines_are = same_lines; numbers = refl; count = refl; given = handed_none metas some_seat; dealt = dealt_none benches })
    where
      dealt_none : (l : List B) → AreDealt l [] l
      dealt_none l = refl

  -- the next bench is dealt out, or none where none is left
  dealt_some : (benches : List B) (given : List (Option B)) (left rest : List B) (bench : B) → AreDealt benches given left → left ≡ bench ∷ rest → AreDealt benches (given ++ Some bench ∷ []) rest
  dealt_some benches [] left rest bench dealt is = first benches (dealt ∙ is)
    where
      first : (l : List B) → l ≡ bench ∷ rest → AreDealt l (Some bench ∷ []) rest
      first [] same = absurd (let e : 0 ≡ suc (length rest) = ap length same in omega (arith, e))
      first (b ∷ l) same = (ap (head_or b) same, ap rest_of same)
  dealt_some [] (None ∷ given) left rest bench dealt is = dealt_some [] given left rest bench dealt is
  dealt_some [] (Some one ∷ given) left rest bench dealt is = absurd dealt
  dealt_some (b ∷ benches) (None ∷ given) left rest bench dealt is = absurd dealt
  dealt_some (b ∷ benches) (Some one ∷ given) left rest bench dealt is = (dealt.0, dealt_some benches given left rest bench dealt.1 is)

  dealt_more : (benches : List B) (given : List (Option B)) (left : List B) → AreDealt benches given left → left ≡ [] → AreDealt benches (given ++ None ∷ []) []
  dealt_more benches [] left dealt none = last benches (dealt ∙ none)
    where
      last : (l : List B) → l ≡ [] → AreDealt l (None ∷ []) []
      last [] same = refl
      last (b ∷ l) same = absurd (let e : suc (length l) ≡ 0 = ap length same in omega (arith, e))
  dealt_more [] (None ∷ given) left dealt none = dealt_more [] given left dealt none
  dealt_more [] (Some one ∷ given) left dealt none = absurd dealt
  dealt_more (b ∷ benches) (None ∷ given) left dealt none = absurd dealt
  dealt_more (b ∷ benches) (Some one ∷ given) left dealt none = (dealt.0, dealt_more benches given left dealt.1 none)

  -- a bench was taken of those that were left, if there was one
  abbrev pub Took : List B → Option B → List B → Type 0
  Took left None rest = (left ≡ []) × (rest ≡ [])
  Took left (Some bench) rest = left ≡ bench ∷ rest

  pub took_next : (left rest : List B) (bench : Option B) (n : ℕ) → left ≡ option_to_list bench ++ rest → (IsSome bench ↔ (0 < n)) → n ≡ length left → Took left bench rest
  took_next left rest (Some bench) n is some_bench long = is
  took_next [] rest None n is some_bench long = (refl, sym is)
  took_next (b ∷ left) rest None n is some_bench long = absurd (true≢false (sym (some_bench.1 (omega (arith, long)))))

  took_more : (benches : List B) (given : List (Option B)) (left rest : List B) (bench : Option B) → AreDealt benches given left → Took left bench rest → AreDealt benches (given ++ bench ∷ []) rest
  took_more benches given left rest None dealt took = subst (AreDealt benches (given ++ None ∷ [])) (sym took.1) (dealt_more benches given left dealt took.0)
  took_more benches given left rest (Some bench) dealt took = dealt_some benches given left rest bench dealt took

  module _ (seats left rest : List DriverSeat) (pipes pipes_left pipes_rest : List (Vec Pipe Global)) (lines lines_left lines_rest : List (Vec DriverLine Global)) (metas metas_left metas_rest : List SeatValue) (benches benches_left benches_rest : List B) (driver : ℕ) (starts more : List (Start B)) (start : Start B) where
    pub begun_more : Begun seats left pipes pipes_left lines lines_left metas metas_left benches benches_left driver starts → more ≡ starts ++ start ∷ [] → start.driver ≡ driver + 1 → left ≡ start.oracle ∷ rest → pipes_left ≡ start.pipes ∷ pipes_rest → lines_left ≡ start.lines ∷ lines_rest
        → 1 < length metas_left → start.meta ≡ get_or metas_left 1 start.meta → metas_rest ≡ remove metas_left 1 → Took benches_left start.bench benches_rest
        → Begun seats rest pipes pipes_rest lines lines_rest metas metas_rest benches benches_rest (driver + 1) more
    begun_more h grown number seat pipe line some_seat is removed took = subst (Begun seats rest pipes pipes_rest lines lines_rest metas metas_rest benches benches_rest (driver + 1)) (sym grown) (record {
      oracle = listed (λ (s : Start B). s.oracle) left rest seats start.oracle h.oracle seat refl;
      pipes_are = listed (λ (s : Start B). s.pipes) pipes_left pipes_rest pipes start.pipes h.pipes_are pipe refl;
      lines_are = listed (λ (s : Start B). s.lines) lines_left lines_rest lines start.lines h.lines_are line refl;
      numbers = numbered (λ (s : Start B). s.driver) starts (starts ++ start ∷ []) start driver refl h.numbers number;
      count = let e = length-append starts (start ∷ []) in let n = h.count in omega (arith, e, n);
      given = subst (λ l. AreHandedOut l metas metas_rest) (sym (map-append (λ (s : Start B). s.meta) starts (start ∷ []))) (handed_more (map (λ (s : Start B). s.meta) starts) metas metas_left metas_rest start.meta h.given some_seat is removed);
      dealt = subst (λ l. AreDealt benches l benches_rest) (sym (map-append (λ (s : Start B). s.bench) starts (start ∷ []))) (took_more benches (map (λ (s : Start B). s.bench) starts) benches_left benches_rest start.bench h.dealt took);
    })
      where
        listed : {X : Type 0} (f : Start B → X) (left rest whole : List X) (x : X) → map f starts ++ left ≡ whole → left ≡ x ∷ rest → x ≡ f start → map f (starts ++ start ∷ []) ++ rest ≡ whole
        listed f left rest whole x so_far next same =
            ap (λ l. l ++ rest) (map-append f starts (start ∷ [])) ∙ append_assoc (map f starts) (f start ∷ []) rest ∙ (λ i. map f starts ++ sym same i ∷ rest) ∙ ap (λ l. map f starts ++ l) (sym next) ∙ so_far

  module _ (seats left : List DriverSeat) (pipes pipes_left : List (Vec Pipe Global)) (lines lines_left : List (Vec DriverLine Global)) (metas metas_left : List SeatValue) (benches benches_left : List B) (driver : ℕ) (starts : List (Start B)) (h : Begun seats left pipes pipes_left lines lines_left metas metas_left benches benches_left driver starts) where
    counted : {X : Type 0} (f : Start B → X) (left whole : List X) → map f starts ++ left ≡ whole → driver + length left ≡ length whole
    counted f left whole is = let e = length-append (map f starts) left in let n : length (map f starts ++ left) ≡ length whole = ap length is in let m = rows_length f starts in let k = h.count in omega (arith, e, n, m, k)

    -- so many are done and so many left
    pub seats_count : driver + length left ≡ length seats
    seats_count = counted (λ (s : Start B). s.oracle) left seats h.oracle

    pub metas_count : driver + length metas_left ≡ length metas
    metas_count =
        let old : length metas ≡ suc (length (map (λ (s : Start B). s.meta) starts ++ h.given.others)) = ap length h.given.old_are in
        let new : length metas_left ≡ suc (length h.given.others) = ap length h.given.new_are in
        let e = length-append (map (λ (s : Start B). s.meta) starts) h.given.others in
        let m = rows_length (λ (s : Start B). s.meta) starts in
        let k = h.count in
        omega (arith, old, new, e, m, k)
