-- A machine keeps the laws of a host of its lists.
use Rattle.std.proofs.Common.{◌≡◌, ◌≢◌, ℕ, ◌<◌, inl, inr, Bool, true, false, cond, List, [], ◌∷◌, set, refl, sym, ap, ◌∙◌, subst}
use Rattle.std.proofs.lemmas.Bool.{false≢true}
use Rattle.std.specs.Prelude.{Option as Slot}
use mathlib.Core.Option.{some}
use Rattle.atomic_table.specs.Table.{State}
use Rattle.tagged_index.specs.Fields.{Fields as Tagged, fields_of}
use Rattle.tagged_index.proofs.Words.{same_fields}
use Rattle.bounded_model.specs.declared.views.PassView.{PassView}
use Rattle.index_list.specs.Lists.{Stands}
use Rattle.index_list.specs.Steps.{numbers, word, looked, changed, Before, Goes, emptied, filled}
use Rattle.index_list.specs.Kinds.{Kind, read_top, read_link, write_link, exchange, place, new_top, taken, given, arranged, in_order}
use Rattle.index_list.specs.Host.{IsReady, AreSlots, Takes, Laws, Exchanges}
use Rattle.index_list.specs.declared.front.Front.{Front}
use Rattle.index_list.specs.declared.change.Change.{Change}
use Rattle.index_list.specs.declared.change.Change.TheVariants.{Take, TakeAll, Give, GiveChain, Mark, Shut}
use Rattle.machine.specs.declared.seats.Begun.{Begun}
use Rattle.machine.specs.declared.seats.View.{View}
use Rattle.machine.specs.declared.seats.View.TheVariants.{AtPass}
use Rattle.running.specs.Machine.{Names, Machine, Side, stays, brings, returns, swaps, Leaves}
use Rattle.running.specs.Rule.{Rule, line_in, line_now}
use Rattle.running.specs.Going.{AtAccess, now_in}
use Rattle.running.specs.Lists.{Lists, Hosts, Ready, Bringing, BroughtBy, Returning, ReturnedBy, AtStep, Tells, Rests, kind_access, step_access, side, host}
use Rattle.running.specs.Laws.{Lawful}
use Rattle.running.proofs.Keeps.{Dealing, at_map, dealing, goes, ready, ready_here}
use Rattle.running.proofs.Made.{ready_does, makes_now, load_law, store_law}

abbrev does_bring : Side → Bool
does_bring brings = true
does_bring sd = false

pub mark_stays : (b : Bool) → side b Mark ≡ stays
mark_stays true = refl
mark_stays false = refl

pub shut_stays : (b : Bool) → side b Shut ≡ stays
shut_stays true = refl
shut_stays false = refl

no_slots : (b : Bool) → ◌≡◌ {A = List ℕ} [] (cond b [] [])
no_slots true = refl
no_slots false = refl

no_bring : {A : Type 0} (is sd : Side) → does_bring sd ≡ false → is ≡ sd → is ≡ brings → A
no_bring is sd not e e' = absurd (false≢true (sym not ∙ ap does_bring (sym e ∙ e')))

abbrev does_return : Side → Bool
does_return returns = true
does_return sd = false

no_return : {A : Type 0} (is sd : Side) → does_return sd ≡ false → is ≡ sd → is ≡ returns → A
no_return is sd not e e' = absurd (false≢true (sym not ∙ ap does_return (sym e ∙ e')))

module _ {T L O : Type 0} {names : Names L O} {m : Machine T L O names} (lawful : Lawful m) (y : Lists L) (n : ℕ) (hosts : Hosts m y n) where
  agrees : (line : L) (l : ℕ) (kind : Kind) → y.step line ≡ some (l, kind) → m.core.access line ≡ kind_access y.layout l kind
  agrees line l kind e = hosts.access line ∙ ap (step_access y (m.core.access line)) e

  pub at_access : (o : O) (v : View T L) (l : ℕ) (kind : Kind) → AtStep m y o v l kind → AtAccess m o v (kind_access y.layout l kind)
  at_access o v l kind a = record { begun = a.begun; line = a.line; going = a.going; access = agrees a.line l kind a.step }

  of_step : (P : View T L → Type 0) (o : O) (v : View T L) (l : ℕ) (kind : Kind) → AtStep m y o v l kind → ((p : PassView T) (from : Begun T L) (line : L) → y.step (line_now names o line) ≡ some (l, kind) → Dealing m o p (line_now names o line) → P (AtPass p from line)) → P v
  of_step P o v l kind a show = subst P (sym a.going.is) (show a.going.pass a.going.from a.going.at (ap y.step a.going.now ∙ a.step) (dealing m a.going))

  held_by : (o : O) (l : ℕ) (line : L) (b : Bool) → names.is_idle line ≡ b → y.held l (cond b (names.first o line) line) ≡ y.held l line
  held_by o l line true e = hosts.first l o line ∙ sym (hosts.idle l line e)
  held_by o l line false e = refl

  held_now : (o : O) (l : ℕ) (line : L) → y.held l (line_now names o line) ≡ y.held l line
  held_now o l line = held_by o l line (names.is_idle line) refl

  stands_law : (l : ℕ) (s : State (Slot T) (View T L)) → l < n → Rule m s → (xs : List ℕ) × Stands y.layout (λ k v. y.held k (line_in names v)) l s xs
  stands_law l s low r =
      let x = hosts.stands l s.words s.homes _ _ r.history low r.sane r.good in
      (x.0, record { leads = x.1.leads; distinct = x.1.distinct; free = λ id v e. x.1.free id (line_in names v) (at_map (line_in names) s.views id v e) })

  ready_law : (o : O) (l id : ℕ) (v : View T L) (s : State (Slot T) (View T L)) (kind : Kind) → AtStep m y o v l kind → Before (Rule m) id v (place y.layout l kind) s → IsReady y.layout l (y.held l (line_in names v)) (word s) kind
  ready_law o l id v s kind is = of_step (λ u. Before (Rule m) id u (place y.layout l kind) s → IsReady y.layout l (y.held l (line_in names u)) (word s) kind) o v l kind is
      (λ p from line e d met.
      let now : L = line_now names o line in
      subst (λ (hand : List ℕ). IsReady y.layout l hand (word s) kind) (held_now o l line)
      (subst (Ready y s.words now) e (hosts.ready s.words s.homes _ _ met.rule.history id now met.rule.sane (ready lawful o id (place y.layout l kind) p from line s met) (ready_here lawful o id (place y.layout l kind) p from line s met))))

  loses_law : (o : O) (l id w : ℕ) (c : Change) (v : View T L) (s : State (Slot T) (View T L)) → AtStep m y o v l (exchange (fields_of w) c) → Before (Rule m) id v (y.layout.top l) s → word s (y.layout.top l) ≢ w
      → Goes (Rule m) (looked s id) (Tells m y o l (exchange (fields_of w) c) (word s (y.layout.top l)) [] v)
  loses_law o l id w c v s is = of_step (λ u. Before (Rule m) id u (y.layout.top l) s → word s (y.layout.top l) ≢ w → Goes (Rule m) (looked s id) (Tells m y o l (exchange (fields_of w) c) (word s (y.layout.top l)) [] u)) o v l (exchange (fields_of w) c) is
      (λ p from line e d met miss.
      let at : ℕ = y.layout.top l in
      let kind : Kind = exchange (fields_of w) c in
      let access = agrees (line_now names o line) l kind e in
      let g = goes lawful o id at p from line s met d (word s at) [] s.words s.homes (makes_now lawful o line (kind_access y.layout l kind) s access _ _ _ _ (refl, inr ((λ f. miss ((same_fields (word s at) w).1 f)), record { words = refl; homes = refl; slots = refl }))) ((ready_does lawful o id at p from line (kind_access y.layout l kind) s met access).1 (λ f. miss ((same_fields (word s at) w).1 f))) in
      record { view = g.view; rule = g.rule; told = (g.told, (λ f _. absurd (miss ((same_fields (word s at) w).1 f))), (λ f _. absurd (miss ((same_fields (word s at) w).1 f)))) })

  module _ (o : O) (l id w x : ℕ) (c : Change) (s : State (Slot T) (View T L)) (is : fields_of x ≡ new_top (y.layout.keeps l) (fields_of w) c) (hit : word s (y.layout.top l) ≡ w) where
    abbrev at : ℕ
    at = y.layout.top l

    abbrev kind : Kind
    kind = exchange (fields_of w) c

    access_is : (sd : Side) → side (y.layout.carries l) c ≡ sd → (line : L) → y.step line ≡ some (l, kind) → m.core.access line ≡ swaps at (fields_of w) (fields_of x) sd
    access_is sd es line e = agrees line l kind e ∙ ap (λ (f : Tagged). swaps at (fields_of w) f (side (y.layout.carries l) c)) (sym is) ∙ ap (λ (k : Side). swaps at (fields_of w) (fields_of x) k) es

    stay : (v : View T L) → AtStep m y o v l kind → side (y.layout.carries l) c ≡ stays → Before (Rule m) id v at s → Goes (Rule m) (changed s at x s.homes id) (Tells m y o l kind w [] v)
    stay v may es = of_step (λ u. Before (Rule m) id u at s → Goes (Rule m) (changed s at x s.homes id) (Tells m y o l kind w [] u)) o v l kind may
        (λ p from line e d met.
        let access = access_is stays es (line_now names o line) e in
        let g = goes lawful o id at p from line s met d w [] (set s.words at x) s.homes
        (makes_now lawful o line (swaps at (fields_of w) (fields_of x) stays) s access _ _ _ _ (sym hit, inl (record { hit = ap fields_of hit; left = x; is = refl; words = refl; slots = (refl, refl) })))
        (subst (λ (k : ℕ). Leaves m.core s.words s.homes p.number (line_now names o line) k [] (set s.words at x) s.homes) hit
        ((ready_does lawful o id at p from line (swaps at (fields_of w) (fields_of x) stays) s met access).0 x (ap fields_of hit) refl)) in
        record { view = g.view; rule = g.rule; told = (g.told, (λ _ b. no_bring (side (y.layout.carries l) c) stays refl es b), (λ _ b. no_return (side (y.layout.carries l) c) stays refl es b)) })

    take_none : (v : View T L) (xs : List ℕ) → AtStep m y o v l kind → side (y.layout.carries l) c ≡ stays → Before (Rule m) id v at s → [] ≡ cond (y.layout.carries l) (arranged c (taken (fields_of w) c xs)) []
        → Takes y.layout (host m y) (Rule m) o l id w x c v s xs
    take_none v xs may es met none = record { slots = []; are = none; distinct = tt; home = tt; goes = stay v may es met }

    bring : (v : View T L) (xs : List ℕ) → AtStep m y o v l kind → side (y.layout.carries l) c ≡ brings → y.layout.carries l ≡ true → Before (Rule m) id v at s
        → ((zs : List (ℕ × Slot T)) → Bringing y true s.words zs l kind → numbers zs ≡ cond (y.layout.carries l) (arranged c (taken (fields_of w) c xs)) [])
        → Takes y.layout (host m y) (Rule m) o l id w x c v s xs
    bring v xs may es ec met are = of_step (λ u. Before (Rule m) id u at s → Takes y.layout (host m y) (Rule m) o l id w x c u s xs) o v l kind may
        (λ p from line e d met.
        let now : L = line_now names o line in
        let access = access_is brings es now e in
        let came = (ready_does lawful o id at p from line (swaps at (fields_of w) (fields_of x) brings) s met access).0 x (ap fields_of hit) refl in
        let g = goes lawful o id at p from line s met d w came.slots (set s.words at x) (emptied s.homes came.slots)
        (makes_now lawful o line (swaps at (fields_of w) (fields_of x) brings) s access _ _ _ _ (sym hit, inl (record { hit = ap fields_of hit; left = x; is = refl; words = refl; slots = refl })))
        (subst (λ (k : ℕ). Leaves m.core s.words s.homes p.number now k came.slots (set s.words at x) (emptied s.homes came.slots)) hit came.leaves) in
        record {
          slots = came.slots;
          are = are came.slots (subst (λ (b : Bool). Bringing y b s.words came.slots l kind) ec (subst (BroughtBy y s.words came.slots) e (hosts.brought s.words s.homes _ _ met.rule.history id now came.slots (ready lawful o id at p from line s met) (ready_here lawful o id at p from line s met) came.moves)));
          distinct = came.apart;
          home = came.home;
          goes = record { view = g.view; rule = g.rule; told = (g.told, (λ _ _. came.fits), (λ _ b. no_return (side (y.layout.carries l) c) brings refl es b)) };
        }) met

    -- a give of no slot, and of those that go with its indexes
    give_none : (v : View T L) → AtStep m y o v l kind → side (y.layout.carries l) c ≡ stays → Before (Rule m) id v at s → (zs : List (ℕ × Slot T)) → zs ≡ [] → [] ≡ cond (y.layout.carries l) (given c (y.held l (line_in names v))) []
        → AreSlots y.layout (host m y) (Rule m) l (given c (y.held l (line_in names v))) zs × Goes (Rule m) (changed s at x (filled s.homes zs) id) (Tells m y o l kind w zs v)
    give_none v may es met zs e none =
        subst (λ (zs : List (ℕ × Slot T)). AreSlots y.layout (host m y) (Rule m) l (given c (y.held l (line_in names v))) zs × Goes (Rule m) (changed s at x (filled s.homes zs) id) (Tells m y o l kind w zs v)) (sym e)
        (none, stay v may es met)

    give_back : (v : View T L) → AtStep m y o v l kind → side (y.layout.carries l) c ≡ returns → y.layout.carries l ≡ true → Before (Rule m) id v at s → (zs : List (ℕ × Slot T)) → m.core.Fits (now_in m o v) zs
        → ((ys : List (ℕ × Slot T)) (hand : List ℕ) → Returning y true hand ys kind → numbers ys ≡ cond (y.layout.carries l) (given c hand) [])
        → AreSlots y.layout (host m y) (Rule m) l (given c (y.held l (line_in names v))) zs × Goes (Rule m) (changed s at x (filled s.homes zs) id) (Tells m y o l kind w zs v)
    give_back v may es ec met zs fits are = of_step (λ u. Before (Rule m) id u at s → m.core.Fits (now_in m o u) zs → AreSlots y.layout (host m y) (Rule m) l (given c (y.held l (line_in names u))) zs × Goes (Rule m) (changed s at x (filled s.homes zs) id) (Tells m y o l kind w zs u)) o v l kind may
        (λ p from line e d met fits.
        let now : L = line_now names o line in
        let access = access_is returns es now e in
        let does = (ready_does lawful o id at p from line (swaps at (fields_of w) (fields_of x) returns) s met access).0 x (ap fields_of hit) refl in
        let g = goes lawful o id at p from line s met d w zs (set s.words at x) (filled s.homes zs) (makes_now lawful o line (swaps at (fields_of w) (fields_of x) returns) s access _ _ _ _ (sym hit, inl (record { hit = ap fields_of hit; left = x; is = refl; words = refl; slots = refl }))) (subst (λ (k : ℕ). Leaves m.core s.words s.homes p.number now k zs (set s.words at x) (filled s.homes zs)) hit (does zs fits)) in
        let moved : (ys : List (ℕ × Slot T)) → m.core.Fits now ys → Returning y true (y.held l now) ys kind = λ ys fit. subst (λ (b : Bool). Returning y b (y.held l now) ys kind) ec (subst (ReturnedBy y now ys) e (hosts.returned s.words s.homes _ _ met.rule.history id now ys (ready lawful o id at p from line s met) (ready_here lawful o id at p from line s met) fit)) in (
          subst (λ (hand : List ℕ). numbers zs ≡ cond (y.layout.carries l) (given c hand) []) (held_now o l line) (are zs (y.held l now) (moved zs fits)),
          record { view = g.view; rule = g.rule; told = (g.told, (λ _ b. no_bring (side (y.layout.carries l) c) returns refl es b), (λ _ _ ys fit. are ys (y.held l now) (moved ys fit) ∙ sym (are zs (y.held l now) (moved zs fits)))) },
        )) met fits

  abbrev side_of : Change → Bool → Side
  side_of c b = side b c

  takes_law : (k : ℕ) → Exchanges y.layout (host m y) (Rule m) n (Take k)
  takes_law k o l id w x v s xs low may is met hit st = by_carries (y.layout.carries l) refl
    where
      by_carries : (b : Bool) → y.layout.carries l ≡ b → Takes y.layout (host m y) (Rule m) o l id w x (Take k) v s xs
      by_carries true e = bring o l id w x (Take k) s is hit v xs may.0 (ap (side_of (Take k)) e) e met (λ zs mv. mv ∙ sym (ap (λ (b : Bool). cond b ((fields_of w).index ∷ []) []) e))
      by_carries false e = take_none o l id w x (Take k) s is hit v xs may.0 (ap (side_of (Take k)) e) met (sym (ap (λ (b : Bool). cond b ((fields_of w).index ∷ []) []) e))

  takes_all_law : (front : Front) → Exchanges y.layout (host m y) (Rule m) n (TakeAll front)
  takes_all_law front o l id w x v s xs low may is met hit st = by_carries (y.layout.carries l) refl
    where
      by_carries : (b : Bool) → y.layout.carries l ≡ b → Takes y.layout (host m y) (Rule m) o l id w x (TakeAll front) v s xs
      by_carries true e = bring o l id w x (TakeAll front) s is hit v xs may.0 (ap (side_of (TakeAll front)) e) e met (λ zs mv. mv (ap fields_of hit) xs st.leads ∙ sym (ap (λ (b : Bool). cond b (in_order front xs) []) e))
      by_carries false e = take_none o l id w x (TakeAll front) s is hit v xs may.0 (ap (side_of (TakeAll front)) e) met (sym (ap (λ (b : Bool). cond b (in_order front xs) []) e))

  gives_law : (c : Change) → side true c ≡ returns → side false c ≡ stays
      → (o : O) (l id w x : ℕ) (v : View T L) (s : State (Slot T) (View T L)) → AtStep m y o v l (exchange (fields_of w) c) → fields_of x ≡ new_top (y.layout.keeps l) (fields_of w) c → Before (Rule m) id v (y.layout.top l) s → word s (y.layout.top l) ≡ w
      → ((zs : List (ℕ × Slot T)) (hand : List ℕ) → Returning y true hand zs (exchange (fields_of w) c) → numbers zs ≡ given c hand)
      → (zs : List (ℕ × Slot T)) → Rests m y (y.layout.carries l) o v zs
      → AreSlots y.layout (host m y) (Rule m) l (given c (y.held l (line_in names v))) zs × Goes (Rule m) (changed s (y.layout.top l) x (filled s.homes zs) id) (Tells m y o l (exchange (fields_of w) c) w zs v)
  gives_law c gives_so keeps_so o l id w x v s may is met hit are zs = by_carries (y.layout.carries l) refl
    where
      by_carries : (b : Bool) → y.layout.carries l ≡ b → Rests m y b o v zs
          → AreSlots y.layout (host m y) (Rule m) l (given c (y.held l (line_in names v))) zs × Goes (Rule m) (changed s (y.layout.top l) x (filled s.homes zs) id) (Tells m y o l (exchange (fields_of w) c) w zs v)
      by_carries true e fits = give_back o l id w x c s is hit v may (ap (side_of c) e ∙ gives_so) e met zs fits (λ ys hand mv. are ys hand mv ∙ sym (ap (λ (b : Bool). cond b (given c hand) []) e))
      by_carries false e none = give_none o l id w x c s is hit v may (ap (side_of c) e ∙ keeps_so) met zs none (sym (ap (λ (b : Bool). cond b (given c (y.held l (line_in names v))) []) e))

  pub laws : Laws y.layout (host m y) (Rule m) n
  laws = record {
    stands = stands_law;
    placed = λ l s low r. hosts.placed l s.words s.homes low r.sane;
    apart = λ l i low e. hosts.apart l i low e;
    ready = λ o l id v s kind low may met. ready_law o l id v s kind may.0 met;
    reads_top = λ o l id v s low may met. load_law lawful o v id (y.layout.top l) (at_access o v l read_top may.0) s met;
    reads_link = λ i o l id v s low may met. load_law lawful o v id (y.layout.link l i) (at_access o v l (read_link i) may.0) s met;
    writes_link = λ i x o l id v s low may met. store_law lawful o v id (y.layout.link l i) x (at_access o v l (write_link i x) may.0) may.1 s met;
    loses = λ o l id w c v s low may met miss. loses_law o l id w c v s may.0 met miss;
    takes = takes_law;
    takes_all = takes_all_law;
    gives_one = λ i o l id w x v s xs low may is met hit st zs fits. gives_law (Give i) refl refl o l id w x v s may.0 is met hit (λ zs hand mv. mv) zs fits;
    gives_chain = λ i o l id w x v s xs low may is met hit st zs fits. gives_law (GiveChain i) refl refl o l id w x v s may.0 is met hit (λ zs hand mv. mv) zs fits;
    marks = λ o l id w x v s xs low may is met hit st. take_none o l id w x Mark s is hit v xs may.0 (mark_stays (y.layout.carries l)) met (no_slots (y.layout.carries l));
    shuts = λ o l id w x v s xs low may is met hit st. take_none o l id w x Shut s is hit v xs may.0 (shut_stays (y.layout.carries l)) met (no_slots (y.layout.carries l));
  }
