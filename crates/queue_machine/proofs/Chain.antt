-- The chain of a queue: what each step does to it, and what passes that have read its words go on to
-- rely on. None of it knows lines or histories.
use Rattle.std.proofs.Common.{◌≡◌, ◌≢◌, ℕ, ◌+◌, ◌<◌, ◌≤◌, List, [], ◌∷◌, ◌++◌, length, refl, sym, ap, ◌∙◌, subst, ⊎_elim, eq-eqb, ne_eqb, arith}
use Rattle.std.proofs.lemmas.Bool.Decides.{eqb_tells}
use Rattle.std.proofs.lemmas.List.{length-append}
use Rattle.tagged_index.specs.declared.word.TheConstants.{NULL}
use Rattle.machine.specs.Words.{Tagged, times, Leads}
use Rattle.machine.specs.OneList.{Later}
use Rattle.machine.specs.Chains.{last}
use Rattle.machine.proofs.Lists.{times_here, times_append}
use Rattle.machine.proofs.OneList.{front_of, none_there}
use Rattle.queue_machine.specs.Machine.{store_word}
use Rattle.queue_machine.specs.Rule.{Lists, Past, Was, Follows, Spans, Lags, Ends, IsChained}

-- words

pub word_here : (next : ℕ → Tagged) (i : ℕ) (x : Tagged) → store_word next i x i ≡ x
word_here next i x = rw (eq-eqb i i refl) refl

pub word_else : (next : ℕ → Tagged) (i : ℕ) (x : Tagged) (j : ℕ) → j ≢ i → store_word next i x j ≡ next j
word_else next i x j ne = rw (ne_eqb j i ne) refl

-- a property of the stored word and of the others is one of all words
pub word_each : (P : ℕ → Tagged → Type 0) (next : ℕ → Tagged) (i : ℕ) (x : Tagged) → P i x → ((j : ℕ) → j ≢ i → P j (next j)) → (j : ℕ) → P j (store_word next i x j)
word_each P next i x here else j = ⊎_elim
    (λ t. subst (λ (k : ℕ). P k (store_word next i x k)) (sym t.1) (subst (P i) (sym (word_here next i x)) here))
    (λ t. subst (P j) (sym (word_else next i x j t.1)) (else j t.1))
    (eqb_tells j i)

pub past_refl : (x : Tagged) → Past x x
past_refl x = record { tag = omega arith; index = λ e. refl }

pub past_higher : (now x : Tagged) → x.tag < now.tag → Past now x
past_higher now x h = record { tag = omega arith; index = λ e. absurd (omega arith) }

pub was_refl : (x : Tagged) → Was x x
was_refl x = record { tag = omega arith; is = λ e. refl }

pub was_higher : (now x : Tagged) → x.tag < now.tag → Was now x
was_higher now x h = record { tag = omega arith; is = λ e. absurd (omega arith) }

pub past_later : {newer now : Tagged} (w : Tagged) → Past newer now → Past now w → Past newer w
past_later w a b = record { tag = omega (arith, a.tag, b.tag); index = λ e. b.index (omega (arith, a.tag, b.tag)) ∙ a.index (omega (arith, a.tag, b.tag)) }

pub was_later : {newer now : Tagged} (n : Tagged) → Was newer now → Was now n → Was newer n
was_later n a b = record { tag = omega (arith, a.tag, b.tag); is = λ e. a.is (omega (arith, a.tag, b.tag)) ∙ b.is (omega (arith, a.tag, b.tag)) }

-- What one step may do to a list with a tagged top, where the pass holds some indexes: the tag never
-- falls, until it rises the list loses no index, and links change of held indexes alone
pub record PoolMoves (top : Tagged) (link : ℕ → ℕ) (list held : List ℕ) (top' : Tagged) (link' : ℕ → ℕ) (list' : List ℕ) : Type 0 where
  pub tag : top.tag ≤ top'.tag
  pub stays : top.tag ≡ top'.tag → (i : ℕ) → 0 < times i list → 0 < times i list'
  pub links : (i : ℕ) → times i held ≡ 0 → link' i ≡ link i

pub pool_same : (top : Tagged) (link : ℕ → ℕ) (list held : List ℕ) → PoolMoves top link list held top link list
pool_same top link list held = record { tag = omega arith; stays = λ e i there. there; links = λ i h. refl }

pub pool_later : {top : Tagged} {link : ℕ → ℕ} {list held : List ℕ} {top' : Tagged} {link' : ℕ → ℕ} {list' : List ℕ}
    → ((i : ℕ) → times i list + times i held ≤ 1) → PoolMoves top link list held top' link' list' → Later top link list top' link' list'
pool_later once p = record { tag = p.tag; stays = p.stays; links = λ e i there. p.links i (omega (arith, once i)) }

-- What one step may do to the chain, where the pass holds some nodes: no tag falls, and while it stays
-- the word stays; a link that names a node changes only of a held node, as does the cell of a node;
-- the tail moves only where a node stands behind it
pub record ChainMoves (head tail : Tagged) (next : ℕ → Tagged) (cell : ℕ → ℕ) (chain held : List ℕ) (head' tail' : Tagged) (next' : ℕ → Tagged) (cell' : ℕ → ℕ) : Type 0 where
  pub heads : Past head' head
  pub tails : Past tail' tail
  pub words : (j : ℕ) → Was (next' j) (next j)
  pub links : (j : ℕ) → times j held ≡ 0 → (next j).index ≢ NULL → next' j ≡ next j
  pub others : (j : ℕ) → times j held ≡ 0 → times j chain ≡ 0 → next' j ≡ next j
  pub cells : (j : ℕ) → times j held ≡ 0 → cell' j ≡ cell j
  pub still : (next tail.index).index ≡ NULL → tail' ≡ tail

pub chain_same : (head tail : Tagged) (next : ℕ → Tagged) (cell : ℕ → ℕ) (chain held : List ℕ) → ChainMoves head tail next cell chain held head tail next cell
chain_same head tail next cell chain held = record {
  heads = past_refl head;
  tails = past_refl tail;
  words = λ j. was_refl (next j);
  links = λ j h node. refl;
  others = λ j h h'. refl;
  cells = λ j h. refl;
  still = λ h. refl;
}

-- what that leaves to a pass that holds other nodes
pub record ChainLater (head tail : Tagged) (next : ℕ → Tagged) (cell : ℕ → ℕ) (chain own : List ℕ) (head' tail' : Tagged) (next' : ℕ → Tagged) (cell' : ℕ → ℕ) : Type 0 where
  pub heads : Past head' head
  pub tails : Past tail' tail
  pub words : (j : ℕ) → Was (next' j) (next j)
  pub links : (j : ℕ) → 0 < times j chain → (next j).index ≢ NULL → next' j ≡ next j
  pub cells : (j : ℕ) → 0 < times j chain → cell' j ≡ cell j
  pub own_links : (j : ℕ) → 0 < times j own → next' j ≡ next j
  pub own_cells : (j : ℕ) → 0 < times j own → cell' j ≡ cell j
  pub still : (next tail.index).index ≡ NULL → tail' ≡ tail

pub chain_later : {head tail : Tagged} {next : ℕ → Tagged} {cell : ℕ → ℕ} {chain held : List ℕ} {head' tail' : Tagged} {next' : ℕ → Tagged} {cell' : ℕ → ℕ} (own : List ℕ)
    → ((j : ℕ) → times j chain + times j held + times j own ≤ 1) → ChainMoves head tail next cell chain held head' tail' next' cell' → ChainLater head tail next cell chain own head' tail' next' cell'
chain_later own once c = record {
  heads = c.heads;
  tails = c.tails;
  words = c.words;
  links = λ j there. c.links j (omega (arith, once j));
  cells = λ j there. c.cells j (omega (arith, once j));
  own_links = λ j there. c.others j (omega (arith, once j)) (omega (arith, once j));
  own_cells = λ j there. c.cells j (omega (arith, once j));
  still = c.still;
}

-- What passes go on to rely on. The head's and the tail's nodes are in the chain
module _ {head tail : Tagged} {next : ℕ → Tagged} {cell : ℕ → ℕ} {chain own : List ℕ} {head' tail' : Tagged} {next' : ℕ → Tagged} {cell' : ℕ → ℕ}
    (c : ChainLater head tail next cell chain own head' tail' next' cell') where
  -- a node that the top names, seen by another name
  named : {top w : Tagged} → 0 < times top.index chain → Past top w → w.tag ≡ top.tag → 0 < times w.index chain
  named {top} {w} there p e = subst (λ (i : ℕ). 0 < times i chain) (sym (p.index e)) there

  pub lags_later : {w n : Tagged} → 0 < times tail.index chain → Lags tail next w n → Lags tail' next' w n
  lags_later {w} {n} there l = record {
    node = l.node;
    past = past_later w c.tails l.past;
    follows = λ e.
        let e' : w.tag ≡ tail.tag = omega (arith, c.tails.tag, l.past.tag) in
        let is = l.follows e' in
        c.links w.index (named there l.past e') (λ z. l.node (sym (ap (λ (x : Tagged). x.index) is) ∙ z)) ∙ is;
  }

  pub follows_head : {h n : Tagged} → 0 < times head.index chain → Past head h → Follows head next h n → Follows head' next' h n
  follows_head {h} {n} there p f e node =
      let e' : h.tag ≡ head.tag = omega (arith, c.heads.tag, p.tag) in
      let is = f e' node in
      c.links h.index (named there p e') (λ z. node (sym (ap (λ (x : Tagged). x.index) is) ∙ z)) ∙ is

  pub follows_tail : {w n : Tagged} → 0 < times tail.index chain → Past tail w → Follows tail next w n → Follows tail' next' w n
  follows_tail {w} {n} there p f e node =
      let e' : w.tag ≡ tail.tag = omega (arith, c.tails.tag, p.tag) in
      let is = f e' node in
      c.links w.index (named there p e') (λ z. node (sym (ap (λ (x : Tagged). x.index) is) ∙ z)) ∙ is

  -- a null link in the chain was null before
  was_null : (j : ℕ) → 0 < times j chain → (next' j).index ≡ NULL → (next j).index ≡ NULL
  was_null j there null = ⊎_elim (λ t. t.1) (λ t. absurd (t.1 (ap (λ (x : Tagged). x.index) (sym (c.links j there t.1)) ∙ null))) (eqb_tells (next j).index NULL)

  pub spans_later : {h w : Tagged} (chain' : List ℕ) → (head.tag ≡ head'.tag → (j : ℕ) → 0 < times j chain → 0 < times j chain') → h.tag ≤ head.tag → Spans head tail next chain h w → Spans head' tail' next' chain' h w
  spans_later {h} {w} chain' stays low s = record {
    past = past_later w c.tails s.past;
    there = λ e. stays (omega (arith, e, low, c.heads.tag)) w.index (s.there (omega (arith, e, low, c.heads.tag)));
    last = λ e null.
        let e' : h.tag ≡ head.tag = omega (arith, e, low, c.heads.tag) in
        let null' : (next w.index).index ≡ NULL = was_null w.index (s.there e') null in
        let t : w.tag ≡ tail.tag = s.last e' null' in
        t ∙ ap (λ (x : Tagged). x.tag) (sym (c.still (ap (λ (i : ℕ). (next i).index) (sym (s.past.index t)) ∙ null')));
  }

  -- where the null link is still there, the tail has not moved
  pub ends_later : {w n : Tagged} → Ends tail next w n → Ends tail' next' w n
  ends_later {w} {n} l = record {
    null = l.null;
    unmarked = l.unmarked;
    was = was_later n (c.words w.index) l.was;
    last = λ e.
        let newer = c.words w.index in
        let e' : n.tag ≡ (next w.index).tag = omega (arith, newer.tag, l.was.tag) in
        let at = l.last e' in
        let null : (next tail.index).index ≡ NULL = ap (λ (i : ℕ). (next i).index) (sym at.1) ∙ ap (λ (x : Tagged). x.index) (l.was.is e') ∙ l.null in
        let same = c.still null in
        (at.0 ∙ ap (λ (x : Tagged). x.tag) (sym same), at.1 ∙ ap (λ (x : Tagged). x.index) (sym same));
  }

-- a list is cut at one of its indexes
pub leads_cut : (link : ℕ → ℕ) (x : ℕ) (a : List ℕ) (t : ℕ) (b : List ℕ) (y : ℕ) → Leads link x (a ++ t ∷ b) y → Leads link x a t × Leads link (link t) b y
leads_cut link x [] t b y l = (l.0, l.1)
leads_cut link x (i ∷ is) t b y l = let r = leads_cut link (link i) is t b y l.1 in ((l.0, r.0), r.1)

pub first_there : (link : ℕ → ℕ) (x : ℕ) (list : List ℕ) (y : ℕ) → 0 < length list → Leads link x list y → 0 < times x list
first_there link x [] y h l = absurd (omega arith)
first_there link x (i ∷ is) y h l = subst (λ (k : ℕ). 0 < times k (i ∷ is)) (sym l.0) (omega (arith, times_here i is))

-- a list of at most one index that has one
pub only_one : (x : ℕ) (rest is : List ℕ) → is ≡ x ∷ rest → length is ≤ 1 → is ≡ x ∷ []
only_one x [] is e short = e
only_one x (y ∷ ys) is e short = absurd (omega (arith, ap length e))

-- Where the tail is
module _ {head tail : Tagged} {next : ℕ → Tagged} {cell : ℕ → ℕ} {g : Lists} (x : IsChained head tail next cell g) where
  pub chain_length : length g.chain ≡ length g.before + 1 + length g.after
  chain_length = omega (arith, ap length x.split, length-append g.before (tail.index ∷ g.after))

  pub tail_in : 0 < times tail.index g.chain
  tail_in = omega (arith, ap (times tail.index) x.split, times_append tail.index g.before (tail.index ∷ g.after), times_here tail.index g.after)

  pub head_in : 0 < times head.index g.chain
  head_in = first_there (λ j. (next j).index) head.index g.chain NULL (omega (arith, chain_length)) x.stands

  parts : Leads (λ j. (next j).index) head.index g.before tail.index × Leads (λ j. (next j).index) (next tail.index).index g.after NULL
  parts = leads_cut (λ j. (next j).index) head.index g.before tail.index g.after NULL (subst (λ (is : List ℕ). Leads (λ j. (next j).index) head.index is NULL) x.split x.stands)

  after_times : (i : ℕ) → times i g.after ≤ times i g.chain
  after_times i = omega (arith, ap (times i) x.split, times_append i g.before (tail.index ∷ g.after))

  -- no node stands behind the tail
  pub at_end : times NULL g.chain ≡ 0 → (next tail.index).index ≡ NULL → g.after ≡ []
  at_end never e = none_there (λ j. (next j).index) (next tail.index).index g.after e (omega (arith, after_times NULL)) parts.1

  -- one does
  pub behind : (next tail.index).index ≢ NULL → g.after ≡ (next tail.index).index ∷ []
  behind ne = let f = front_of (λ j. (next j).index) (next tail.index).index g.after NULL ne parts.1 in only_one (next tail.index).index f.rest g.after f.is x.short

  -- the last node of the chain is the tail's or the one behind it
  pub last_in : 0 < times (last (tail.index ∷ g.after)) g.chain
  last_in = is_in g.after refl
    where
      is_in : (after : List ℕ) → g.after ≡ after → 0 < times (last (tail.index ∷ after)) g.chain
      is_in [] e = tail_in
      is_in (i ∷ []) e = omega (arith, after_times i, ap (times i) e, times_here i [])
      is_in (i ∷ j ∷ js) e = absurd (omega (arith, x.short, ap length e))

  -- the tail is at the dummy where its tag is the head's
  pub at_front : tail.tag ≡ head.tag → tail.index ≡ head.index
  at_front e = is_first g.before refl
    where
      is_first : (before : List ℕ) → g.before ≡ before → tail.index ≡ head.index
      is_first [] b = sym (subst (λ (is : List ℕ). Leads (λ j. (next j).index) head.index is tail.index) b parts.0)
      is_first (i ∷ is) b = absurd (omega (arith, e, x.place, ap length b))

  pub never_behind : head.tag ≤ tail.tag
  never_behind = omega (arith, x.place)

  -- and none behind that one
  pub behind_null : (next tail.index).index ≢ NULL → (next (next tail.index).index).index ≡ NULL
  behind_null ne = (subst (λ (is : List ℕ). Leads (λ j. (next j).index) (next tail.index).index is NULL) (behind ne) parts.1).1
