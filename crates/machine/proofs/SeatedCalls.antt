-- What split, meet, join, note and heed do to views, and what a load tells that belongs to no line.
use Rattle.std.proofs.Common.{◌≡◌, ℕ, ◌+◌, ◌<◌, List, [], ◌∷◌, ◌++◌, length, refl, sym, ap, ◌∙◌, subst, arith}
use Rattle.std.specs.List.{AllByRecursion as Every}
use Rattle.bounded_model.specs.declared.history.Event.{Event}
use Rattle.bounded_model.specs.declared.views.Answered.{Answered}
use Rattle.bounded_model.specs.declared.views.Answered.TheVariants.{Heard}
use Rattle.bounded_model.specs.declared.views.PassView.{PassView}
use Rattle.bounded_model.specs.declared.views.RootView.{RootView}
use Rattle.bounded_model.specs.Machine.{Shape, state, Legal}
use Rattle.bounded_model.specs.Histories.{pass_of as event_pass, own}
use Rattle.bounded_model.specs.Laws.{IsSound, IsAtRest, HasRoomForPass, Splits, Joins, Meets, Heeds, Adds}
use Rattle.bounded_model.proofs.Histories.{Later-refl, Later-start, own-append, own-between, own-unknown, known_from_own}
use Rattle.machine.specs.declared.seats.View.{View}
use Rattle.machine.specs.declared.seats.View.TheVariants.{AtRoot, AtPass, AtMeeting, AtNote, AtHearing, Left}
use Rattle.machine.specs.Seats.{Acts, Extends, Owns, Saw, Rooted, Knows, Fine, Looks, Shares, nothing, handed_of, held_at, line_of, at_rest, new_pass, gives_one, takes_back, stepped, hearing, looked, left_of, right_of, both_of, acts_now, pass_of, root_of, told_of}
use Rattle.machine.proofs.Hands.{same_hand}
use Rattle.machine.proofs.Seating.{below_more}
use Rattle.bounded_model.proofs.Whole.{few}

module _ {T : Type 0} where
  -- a step that adds no event of the pass
  pub adds_none : (h : List (Event T)) (answers : List (Answered T)) (p : PassView T) → Saw h p → Adds p (stepped h answers p) []
  adds_none h answers p f = record { number = refl; steps = omega arith; between = f.seen.more; seen = f.seen.is; own_events = own-between p.number f.seen.more p.seen (sym (ap (own p.number) f.seen.is) ∙ f.own_events) }

  heeds_own : (p : PassView T) (told : List (Event T)) (q : PassView T) → Heeds p told q → own p.number q.seen ≡ own p.number p.seen
  heeds_own p told q f = ap (own p.number) f.adds.seen ∙ own-append p.number f.adds.between p.seen ∙ ap (λ (es : List (Event T)). es ++ own p.number p.seen) f.adds.own_events

  saw_stepped : (h : List (Event T)) (answers : List (Answered T)) (p : PassView T) → Saw h p → Saw h (stepped h answers p)
  saw_stepped h answers p f = record { seen = Later-refl h; own_events = refl }

  known_more : (n : ℕ) (h : List (Event T)) → Every (λ e. event_pass e < n) h → Every (λ e. event_pass e < n + 1) h
  known_more n [] known = tt
  known_more n (e ∷ h) known = (let b : event_pass e < n = known.0 in omega arith, known_more n h known.1)

  -- what the whole root knows, at the end of a legal history
  rooted_sound : (c : Shape) (h : List (Event T)) (r : RootView T) (heard : List (Event T)) → Legal c h → Rooted h r heard → IsSound c (record r { seen = h })
  rooted_sound c h r heard legal f = record { legal = legal; joined = f.joined; apart = f.apart; given = f.given; known = known_from_own r.given h f.unknown; works = f.works }

module _ {T L : Type 0} where
  -- a load makes a seat answer for no more, and keeps what it knows; with `seated_step` it keeps what all know
  pub looked_owns : (h : List (Event T)) (acts : Acts L) (v : View T L) (x : ℕ) → Owns (looked h acts v) x → Owns v x
  looked_owns h acts (AtRoot r ks heard l) x o = o
  looked_owns h acts v x o = o

  looked_knows : (h : List (Event T)) (acts : Acts L) (v : View T L) → Knows h v → Knows h (looked h acts v)
  looked_knows h acts (AtRoot r ks heard l) f = record { seen = Later-refl h; heard_seen = Later-start h; joined = f.joined; apart = f.apart; given = f.given; unknown = f.unknown; works = f.works }
  looked_knows h acts (AtPass p begun l) f = saw_stepped h p.answers p f
  looked_knows h acts (AtMeeting p xs k q ys l) f = (saw_stepped h (Heard ∷ p.answers) p f.0, f.1, f.2)
  looked_knows h acts (AtNote told) f = f
  looked_knows h acts (AtHearing p xs l told) f = (saw_stepped h (Heard ∷ p.answers) p f.0, f.1)
  looked_knows h acts Left f = tt

  looked_holds : (held : L → ℕ) (h : List (Event T)) (acts : Acts L) (v : View T L) → held_at held v ≡ held_at held (looked h acts v)
  looked_holds held h acts (AtRoot r ks heard l) = refl
  looked_holds held h acts v = refl

  pub looked_fine : (c : Shape) (held : L → ℕ) (h : List (Event T)) (acts : Acts L) (v : View T L) → Fine c held h v → Fine c held h (looked h acts v)
  looked_fine c held h acts v f = record { knows = looked_knows h acts v f.knows; hands = λ x o. f.hands x (looked_owns h acts v x o) ∙ looked_holds held h acts v }

  -- these acts begin with all that a seat knows of them
  abbrev pub KnowsActs : Acts L → View T L → Type 0
  KnowsActs acts (AtRoot r ks heard l) = Extends ks acts × Extends heard.acts acts
  KnowsActs acts (AtMeeting p xs k q ys l) = Extends xs acts × Extends ys acts
  KnowsActs acts (AtHearing p xs l told) = Extends xs acts × Extends told.acts acts
  KnowsActs acts v = Unit {0}

  -- and tells this
  pub looks : (c : Shape) (h : List (Event T)) (acts : Acts L) (v : View T L) → Legal c h → Knows h v → KnowsActs acts v → Looks c v (looked h acts v)
  looks c h acts (AtRoot r ks heard l) legal f k = (record r { seen = h }, refl, refl, refl, refl, f.seen, f.heard_seen, rooted_sound c h r heard.seen legal f, k.0, k.1)
  looks c h acts (AtPass p begun l) legal f k = (stepped h p.answers p, refl, refl, adds_none h p.answers p f, legal)
  looks c h acts (AtMeeting p xs k q ys l) legal f know = (hearing h p, refl, record { number = refl; steps = omega arith; one = refl; first = f.0.seen; second = f.1.seen; own_events = f.0.own_events; others = f.1.own_events; answers = refl }, legal, know.0, know.1)
  looks c h acts (AtNote told) legal f k = tt
  looks c h acts (AtHearing p xs l told) legal f k = (hearing h p, refl, record { adds = adds_none h (Heard ∷ p.answers) p f.0; one = refl; heard = f.1; answers = refl }, legal, k.0, k.1)
  looks c h acts Left legal f k = tt

  -- a view that is known to be a root's or a pass's, in terms of what is read off it
  pub at_root : (sh : Shares L) (v : View T L) (r : RootView T) (ks : Acts L) (l : L) → v ≡ AtRoot r ks nothing l → v ≡ AtRoot (root_of v) (acts_now v) nothing (line_of sh v)
  at_root sh v r ks l e = e ∙ sym (λ t. AtRoot (root_of (e t)) (acts_now (e t)) nothing (line_of sh (e t)))

  pub at_pass : (l : L) (v : View T L) (p : PassView T) (acts : Acts L) → v ≡ at_rest l p acts → v ≡ at_rest l (pass_of v) (acts_now v)
  at_pass l v p acts e = e ∙ sym (λ t. at_rest l (pass_of (e t)) (acts_now (e t)))

  -- The calls, from the views before and after

  -- the root at line l gives a pass
  pub record SplitView (c : Shape) (sh : Shares L) (l : L) (v left right : View T L) : Type 0 where
    pub root : left ≡ AtRoot (root_of left) (acts_now left) nothing (line_of sh left)
    pub acts : (acts_now left ≡ acts_now v) × (acts_now right ≡ acts_now v)
    pub line : line_of sh left ≡ (sh.gives l).0
    pub pass : right ≡ at_rest (sh.gives l).1 (pass_of right) (acts_now right)
    pub sound : IsSound c (root_of left)
    pub rests : IsAtRest c (pass_of right)
    pub gives : Splits c (root_of v) (root_of left) (pass_of right)

  pub split_view : (c : Shape) (sh : Shares L) (l : L) (v left right : View T L) → v ≡ AtRoot (root_of v) (acts_now v) nothing l → IsSound c (root_of v) → HasRoomForPass c (root_of v) → left ≡ left_of sh v → right ≡ right_of sh v → SplitView c sh l v left right
  split_view c sh l v left right is sound room e f =
      let root : RootView T = root_of v in
      let l' : left ≡ AtRoot (gives_one root) (acts_now v) nothing (sh.gives l).0 = e ∙ ap (left_of sh) is in
      let r' : right ≡ at_rest (sh.gives l).1 (new_pass root) (acts_now v) = f ∙ ap (right_of sh) is in
      let s : gives_one root ≡ root_of left = sym (ap root_of l') in
      let p : new_pass root ≡ pass_of right = sym (ap pass_of r') in
      let none : own root.given root.seen ≡ [] = own-unknown root.given root.seen sound.known root.given (omega arith) in
      let whole : IsSound c (gives_one root) = record { legal = sound.legal; joined = sound.joined; apart = sound.apart; given = below_more root.given root.account sound.given; known = known_more root.given root.seen sound.known; works = sound.works } in
      let new : IsAtRest c (new_pass root) = record { legal = sound.legal; hand = same_hand c root.given root.seen [] none } in
      record {
        root = at_root sh left (gives_one root) (acts_now v) (sh.gives l).0 l';
        acts = (ap acts_now l', ap acts_now r');
        line = ap (line_of sh) l';
        pass = at_pass (sh.gives l).1 right (new_pass root) (acts_now v) r';
        sound = subst (IsSound c) s whole;
        rests = subst (IsAtRest c) p new;
        gives = record { room = room; root = sym s; pass = sym p };
      }

  -- the root at line l takes back a pass at line k
  pub record JoinView (c : Shape) (sh : Shares L) (l k : L) (v w after : View T L) : Type 0 where
    pub root : after ≡ AtRoot (root_of after) (acts_now after) nothing (line_of sh after)
    pub acts : Extends (acts_now v) (acts_now after) × Extends (acts_now w) (acts_now after)
    pub line : line_of sh after ≡ sh.takes l k
    pub sound : IsSound c (root_of after)
    pub gives : Joins (root_of v) (pass_of w) (root_of after)

  pub join_view : (c : Shape) (sh : Shares L) (l k : L) (v w between after : View T L) → v ≡ AtRoot (root_of v) (acts_now v) nothing l → w ≡ at_rest k (pass_of w) (acts_now w) → between ≡ both_of sh v w → Looks c between after → JoinView c sh l k v w after
  join_view c sh l k v w between after a b e tells =
      let r : RootView T = root_of v in
      let p : PassView T = pass_of w in
      let is : between ≡ AtRoot (takes_back r p) (acts_now v) (record { seen = p.seen; acts = acts_now w }) (sh.takes l k) = e ∙ (λ i. both_of sh (a i) (b i)) in
      let t = subst (λ (x : View T L). Looks c x after) is tells in
      let s : RootView T = t.0 in
      let same : s ≡ root_of after = sym (ap root_of t.1) in
      let gives : Joins r p s = record { given = t.2; account = t.3; works = t.4; root_seen = t.5; seen = t.6 } in
      record { root = at_root sh after s (acts_now after) (sh.takes l k) t.1; acts = (t.8, t.9); line = ap (line_of sh) t.1; sound = subst (IsSound c) same t.7; gives = subst (Joins r p) same gives }

  -- a pass at line k meets one at line l
  pub record MeetView (c : Shape) (k l : L) (v w left right : View T L) : Type 0 where
    pub first : left ≡ at_rest k (pass_of left) (acts_now left)
    pub second : right ≡ at_rest l (pass_of right) (acts_now right)
    pub acts : Extends (acts_now v) (acts_now left) × Extends (acts_now w) (acts_now left)
    pub same_acts : acts_now right ≡ acts_now w
    pub rests : IsAtRest c (pass_of v) → IsAtRest c (pass_of left)
    pub same : pass_of right ≡ pass_of w
    pub gives : Meets (pass_of v) (pass_of w) (pass_of left)

  pub meet_view : (c : Shape) (sh : Shares L) (k l : L) (v w between after left right : View T L) → v ≡ at_rest k (pass_of v) (acts_now v) → w ≡ at_rest l (pass_of w) (acts_now w) → between ≡ both_of sh v w → Looks c between after → left ≡ left_of sh after → right ≡ right_of sh after
      → MeetView c k l v w left right
  meet_view c sh k l v w between after left right a b e tells el er =
      let p : PassView T = pass_of v in
      let q : PassView T = pass_of w in
      let is : between ≡ AtMeeting p (acts_now v) k q (acts_now w) l = e ∙ (λ i. both_of sh (a i) (b i)) in
      let t = subst (λ (x : View T L). Looks c x after) is tells in
      let p' : PassView T = t.0 in
      let l' : left ≡ at_rest k p' (acts_now after) = el ∙ ap (left_of sh) t.1 in
      let same : acts_now after ≡ acts_now left = sym (ap acts_now l') in
      let r' : right ≡ at_rest l q (acts_now w) = er ∙ ap (right_of sh) t.1 in
      let s : p' ≡ pass_of left = sym (ap pass_of l') in
      let meets : Meets p q p' = t.2 in
      record {
        first = at_pass k left p' (acts_now after) l';
        acts = (subst (Extends (acts_now v)) same t.4, subst (Extends (acts_now w)) same t.5);
        same_acts = ap acts_now r';
        second = at_pass l right q (acts_now w) r';
        rests = λ rest. subst (IsAtRest c) s (record { legal = t.3; hand = ap (state c p'.seen).hand meets.number ∙ same_hand c p.number p'.seen p.seen meets.own_events ∙ rest.hand });
        same = ap pass_of r';
        gives = subst (Meets p q) s meets;
      }

  -- a note is made of a pass, which stays as it was
  pub record NoteView (l : L) (v left right : View T L) : Type 0 where
    pub pass : left ≡ at_rest l (pass_of left) (acts_now left)
    pub same : pass_of left ≡ pass_of v
    pub acts : (acts_now left ≡ acts_now v) × (acts_now right ≡ acts_now v)
    pub note : right ≡ AtNote (handed_of right)
    pub told : told_of right ≡ (pass_of v).seen

  pub note_view : (sh : Shares L) (l : L) (v left right : View T L) → v ≡ at_rest l (pass_of v) (acts_now v) → left ≡ left_of sh v → right ≡ right_of sh v → NoteView l v left right
  note_view sh l v left right is el er =
      let p : PassView T = pass_of v in
      let l' : left ≡ at_rest l p (acts_now v) = el ∙ ap (left_of sh) is in
      let r' : right ≡ AtNote (record { seen = p.seen; acts = acts_now v }) = er ∙ ap (right_of sh) is in
      record { pass = at_pass l left p (acts_now v) l'; same = ap pass_of l'; acts = (ap acts_now l', ap acts_now r'); note = r' ∙ ap AtNote (sym (ap handed_of r')); told = ap told_of r' }

  pub record HeedView (c : Shape) (l : L) (v w left : View T L) : Type 0 where
    pub pass : left ≡ at_rest l (pass_of left) (acts_now left)
    pub acts : Extends (acts_now v) (acts_now left) × Extends (acts_now w) (acts_now left)
    pub rests : IsAtRest c (pass_of v) → IsAtRest c (pass_of left)
    pub gives : Heeds (pass_of v) (told_of w) (pass_of left)

  pub heed_view : (c : Shape) (sh : Shares L) (l : L) (v w between after left : View T L) → v ≡ at_rest l (pass_of v) (acts_now v) → w ≡ AtNote (handed_of w) → between ≡ both_of sh v w → Looks c between after → left ≡ left_of sh after → HeedView c l v w left
  heed_view c sh l v w between after left a b e tells el =
      let p : PassView T = pass_of v in
      let told : List (Event T) = told_of w in
      let is : between ≡ AtHearing p (acts_now v) l (handed_of w) = e ∙ (λ i. both_of sh (a i) (b i)) in
      let t = subst (λ (x : View T L). Looks c x after) is tells in
      let q : PassView T = t.0 in
      let l' : left ≡ at_rest l q (acts_now after) = el ∙ ap (left_of sh) t.1 in
      let same : acts_now after ≡ acts_now left = sym (ap acts_now l') in
      let note : acts_now w ≡ (handed_of w).acts = ap acts_now b in
      let s : q ≡ pass_of left = sym (ap pass_of l') in
      let heeds : Heeds p told q = t.2 in
      let own_events : own p.number q.seen ≡ own p.number p.seen = heeds_own p told q heeds in
      record {
        pass = at_pass l left q (acts_now after) l';
        acts = (subst (Extends (acts_now v)) same t.4, subst (λ (older : Acts L). Extends older (acts_now left)) (sym note) (subst (Extends (handed_of w).acts) same t.5));
        rests = λ rest. subst (IsAtRest c) s (record { legal = t.3; hand = ap (state c q.seen).hand heeds.adds.number ∙ same_hand c p.number q.seen p.seen own_events ∙ rest.hand });
        gives = subst (Heeds p told) s heeds;
      }

-- a pass that is joined was out
module _ {T : Type 0} where
  pub was_out : (c : Shape) (r s : RootView T) (p : PassView T) (out : ℕ) → Joins r p s → IsSound c s → r.given ≡ out + length r.account → 0 < out
  was_out c r s p out j sound counted =
      let most = few s.given s.account sound.apart sound.given in
      let given : s.given ≡ r.given = j.given in
      let account : length s.account ≡ length r.account + 1 = ap length j.account ∙ omega arith in
      omega arith
