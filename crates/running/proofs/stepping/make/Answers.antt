use Rattle.std.proofs.Common.{Bool, refl, sym, ap}
use Rattle.index_list.specs.declared.change.Change.TheVariants as change
use Rattle.running.specs.Lists.{side}
use Rattle.running.proofs.Hosting.{mark_stays, shut_stays}
use Rattle.running.proofs.Making.{known, at_access, at_step, fits_now, loaded, fetched, stowed, stored, stayed_at, brought_at, returned_at, stayed, brought, returned}
use Rattle.running.proofs.stepping.make.Goals as goal

pub load_step-word-requires-clause-table : goal.load_step-word-requires-clause-table
load_step-word-requires-clause-table g c =
    (c.requires.table, (known (g.M.Machine.machine c.args.table.now.key) g.M.ListMachine.lists c.requires.at _ _ c.in-Load.is c.requires.access).1)

pub load_step-word-requires-clause-access : goal.load_step-word-requires-clause-access
load_step-word-requires-clause-access g c =
    at_access (g.M.Machine.machine c.args.table.now.key) g.M.ListMachine.lists c.requires.at _ (known (g.M.Machine.machine c.args.table.now.key) g.M.ListMachine.lists c.requires.at _ _ c.in-Load.is c.requires.access).0

pub returns-in-Load-clause-made : goal.returns-in-Load-clause-made
returns-in-Load-clause-made g c =
    let s = c.load_step-word in loaded (g.M.Machine.machine c.args.table.now.key) g.M.ListMachine.lists c.requires.at s.new.seat.me (record { word = s.result; won = _ }) _ _ (known (g.M.Machine.machine c.args.table.now.key) g.M.ListMachine.lists c.requires.at _ _ c.in-Load.is c.requires.access).0 refl s.ensures.seat.1 s.ensures.steps

pub fetch_step-word-requires-clause-table : goal.fetch_step-word-requires-clause-table
fetch_step-word-requires-clause-table g c =
    (c.requires.table, (known (g.M.Machine.machine c.args.table.now.key) g.M.ListMachine.lists c.requires.at _ _ c.in-Fetch.is c.requires.access).1)

pub fetch_step-word-requires-clause-access : goal.fetch_step-word-requires-clause-access
fetch_step-word-requires-clause-access g c =
    at_access (g.M.Machine.machine c.args.table.now.key) g.M.ListMachine.lists c.requires.at _ (known (g.M.Machine.machine c.args.table.now.key) g.M.ListMachine.lists c.requires.at _ _ c.in-Fetch.is c.requires.access).0

pub returns-in-Fetch-clause-made : goal.returns-in-Fetch-clause-made
returns-in-Fetch-clause-made g c =
    let s = c.fetch_step-word in fetched (g.M.Machine.machine c.args.table.now.key) g.M.ListMachine.lists c.requires.at s.new.seat.me (record { word = s.result; won = _ }) _ _ (known (g.M.Machine.machine c.args.table.now.key) g.M.ListMachine.lists c.requires.at _ _ c.in-Fetch.is c.requires.access).0 refl s.ensures.steps

pub stow_step-word-requires-clause-table : goal.stow_step-word-requires-clause-table
stow_step-word-requires-clause-table g c =
    (c.requires.table, (known (g.M.Machine.machine c.args.table.now.key) g.M.ListMachine.lists c.requires.at _ _ c.in-Stow.is c.requires.access).1)

pub stow_step-word-requires-clause-access : goal.stow_step-word-requires-clause-access
stow_step-word-requires-clause-access g c =
    at_access (g.M.Machine.machine c.args.table.now.key) g.M.ListMachine.lists c.requires.at _ (known (g.M.Machine.machine c.args.table.now.key) g.M.ListMachine.lists c.requires.at _ _ c.in-Stow.is c.requires.access).0

pub stow_step-word-requires-clause-fits : goal.stow_step-word-requires-clause-fits
stow_step-word-requires-clause-fits g c =
    fits_now (g.M.Machine.machine c.args.table.now.key) g.M.ListMachine.lists c.requires.at (known (g.M.Machine.machine c.args.table.now.key) g.M.ListMachine.lists c.requires.at _ _ c.in-Stow.is c.requires.access).2

pub returns-in-Stow-clause-made : goal.returns-in-Stow-clause-made
returns-in-Stow-clause-made g c =
    let s = c.stow_step-word in stowed (g.M.Machine.machine c.args.table.now.key) g.M.ListMachine.lists c.requires.at s.new.seat.me (record { word = s.result; won = _ }) _ _ (known (g.M.Machine.machine c.args.table.now.key) g.M.ListMachine.lists c.requires.at _ _ c.in-Stow.is c.requires.access).0 refl s.ensures.seat.1 s.ensures.steps

pub store_step-requires-clause-table : goal.store_step-requires-clause-table
store_step-requires-clause-table g c =
    (c.requires.table, (known (g.M.Machine.machine c.args.table.now.key) g.M.ListMachine.lists c.requires.at _ _ c.in-Store.is c.requires.access).1)

pub store_step-requires-clause-access : goal.store_step-requires-clause-access
store_step-requires-clause-access g c =
    at_access (g.M.Machine.machine c.args.table.now.key) g.M.ListMachine.lists c.requires.at _ (known (g.M.Machine.machine c.args.table.now.key) g.M.ListMachine.lists c.requires.at _ _ c.in-Store.is c.requires.access).0

pub store_step-requires-clause-plain : goal.store_step-requires-clause-plain
store_step-requires-clause-plain g c =
    (known (g.M.Machine.machine c.args.table.now.key) g.M.ListMachine.lists c.requires.at _ _ c.in-Store.is c.requires.access).2

pub returns-in-Store-clause-made : goal.returns-in-Store-clause-made
returns-in-Store-clause-made g c =
    let s = c.store_step in stored (g.M.Machine.machine c.args.table.now.key) g.M.ListMachine.lists c.requires.at s.new.seat.me (record { word = c.in-Store.word; won = _ }) _ _ _ (known (g.M.Machine.machine c.args.table.now.key) g.M.ListMachine.lists c.requires.at _ _ c.in-Store.is c.requires.access).0 refl s.ensures.seat.1 s.ensures.steps

pub keep_step-requires-clause-table : goal.keep_step-requires-clause-table
keep_step-requires-clause-table g c =
    (c.requires.table, (known (g.M.Machine.machine c.args.table.now.key) g.M.ListMachine.lists c.requires.at _ _ c.in-Keep.is c.requires.access).1)

pub keep_step-requires-clause-access : goal.keep_step-requires-clause-access
keep_step-requires-clause-access g c =
    at_access (g.M.Machine.machine c.args.table.now.key) g.M.ListMachine.lists c.requires.at _ (known (g.M.Machine.machine c.args.table.now.key) g.M.ListMachine.lists c.requires.at _ _ c.in-Keep.is c.requires.access).0

pub keep_step-requires-clause-plain : goal.keep_step-requires-clause-plain
keep_step-requires-clause-plain g c =
    (known (g.M.Machine.machine c.args.table.now.key) g.M.ListMachine.lists c.requires.at _ _ c.in-Keep.is c.requires.access).2

pub returns-in-Keep-clause-made : goal.returns-in-Keep-clause-made
returns-in-Keep-clause-made g c =
    let s = c.keep_step in stored (g.M.Machine.machine c.args.table.now.key) g.M.ListMachine.lists c.requires.at s.new.seat.me (record { word = c.in-Keep.word; won = _ }) _ _ _ (known (g.M.Machine.machine c.args.table.now.key) g.M.ListMachine.lists c.requires.at _ _ c.in-Keep.is c.requires.access).0 refl s.ensures.seat.1 s.ensures.steps

pub swap_step-won-requires-clause-table : goal.swap_step-won-requires-clause-table
swap_step-won-requires-clause-table g c =
    (c.requires.table, (known (g.M.Machine.machine c.args.table.now.key) g.M.ListMachine.lists c.requires.at _ _ c.in-Swap.is c.requires.access).1)

pub swap_step-won-requires-clause-access : goal.swap_step-won-requires-clause-access
swap_step-won-requires-clause-access g c =
    at_access (g.M.Machine.machine c.args.table.now.key) g.M.ListMachine.lists c.requires.at _ (known (g.M.Machine.machine c.args.table.now.key) g.M.ListMachine.lists c.requires.at _ _ c.in-Swap.is c.requires.access).0

pub returns-in-Swap-clause-made : goal.returns-in-Swap-clause-made
returns-in-Swap-clause-made g c =
    let s = c.swap_step-won in stayed_at (g.M.Machine.machine c.args.table.now.key) g.M.ListMachine.lists c.requires.at s.new.seat.me _ _ _ _ (known (g.M.Machine.machine c.args.table.now.key) g.M.ListMachine.lists c.requires.at _ _ c.in-Swap.is c.requires.access).0 s.ensures.seat.1 s.ensures.won s.ensures.lost

pub take_step-won-requires-clause-table : goal.take_step-won-requires-clause-table
take_step-won-requires-clause-table g c =
    (c.requires.table, (known (g.M.Machine.machine c.args.table.now.key) g.M.ListMachine.lists c.requires.at _ _ c.in-Bring.is c.requires.access).1)

pub take_step-won-requires-clause-access : goal.take_step-won-requires-clause-access
take_step-won-requires-clause-access g c =
    at_access (g.M.Machine.machine c.args.table.now.key) g.M.ListMachine.lists c.requires.at _ (known (g.M.Machine.machine c.args.table.now.key) g.M.ListMachine.lists c.requires.at _ _ c.in-Bring.is c.requires.access).0

pub returns-in-Bring-clause-made : goal.returns-in-Bring-clause-made
returns-in-Bring-clause-made g c =
    let s = c.take_step-won in brought_at (g.M.Machine.machine c.args.table.now.key) g.M.ListMachine.lists c.requires.at s.new.seat.me _ _ _ _ (known (g.M.Machine.machine c.args.table.now.key) g.M.ListMachine.lists c.requires.at _ _ c.in-Bring.is c.requires.access).0 s.ensures.won s.ensures.lost

pub give_step-won-requires-clause-table : goal.give_step-won-requires-clause-table
give_step-won-requires-clause-table g c =
    (c.requires.table, (known (g.M.Machine.machine c.args.table.now.key) g.M.ListMachine.lists c.requires.at _ _ c.in-Return.is c.requires.access).1)

pub give_step-won-requires-clause-access : goal.give_step-won-requires-clause-access
give_step-won-requires-clause-access g c =
    at_access (g.M.Machine.machine c.args.table.now.key) g.M.ListMachine.lists c.requires.at _ (known (g.M.Machine.machine c.args.table.now.key) g.M.ListMachine.lists c.requires.at _ _ c.in-Return.is c.requires.access).0

pub give_step-won-requires-clause-fits : goal.give_step-won-requires-clause-fits
give_step-won-requires-clause-fits g c =
    fits_now (g.M.Machine.machine c.args.table.now.key) g.M.ListMachine.lists c.requires.at (known (g.M.Machine.machine c.args.table.now.key) g.M.ListMachine.lists c.requires.at _ _ c.in-Return.is c.requires.access).2

pub returns-in-Return-clause-made : goal.returns-in-Return-clause-made
returns-in-Return-clause-made g c =
    let s = c.give_step-won in returned_at (g.M.Machine.machine c.args.table.now.key) g.M.ListMachine.lists c.requires.at s.new.seat.me _ _ _ _ (known (g.M.Machine.machine c.args.table.now.key) g.M.ListMachine.lists c.requires.at _ _ c.in-Return.is c.requires.access).0 s.ensures.won s.ensures.lost

pub load_top_step-top-requires-clause-table : goal.load_top_step-top-requires-clause-table
load_top_step-top-requires-clause-table g c =
    let is = known (g.M.Machine.machine c.args.table.now.key) g.M.ListMachine.lists c.requires.at _ _ c.in-LoadTop.is c.requires.access in (c.requires.table, is.0.0, is.1)

pub load_top_step-top-requires-clause-access : goal.load_top_step-top-requires-clause-access
load_top_step-top-requires-clause-access g c =
    at_step (g.M.Machine.machine c.args.table.now.key) g.M.ListMachine.lists c.requires.at _ _ (known (g.M.Machine.machine c.args.table.now.key) g.M.ListMachine.lists c.requires.at _ _ c.in-LoadTop.is c.requires.access).0.1

pub returns-in-LoadTop-clause-made : goal.returns-in-LoadTop-clause-made
returns-in-LoadTop-clause-made g c =
    let s = c.load_top_step-top in loaded (g.M.Machine.machine c.args.table.now.key) g.M.ListMachine.lists c.requires.at s.new.seat.me _ _ _ (known (g.M.Machine.machine c.args.table.now.key) g.M.ListMachine.lists c.requires.at _ _ c.in-LoadTop.is c.requires.access).0.2 (sym c.word-in-LoadTop.ensures.same) s.ensures.seat.1 s.ensures.steps

pub load_link_step-word-requires-clause-table : goal.load_link_step-word-requires-clause-table
load_link_step-word-requires-clause-table g c =
    let is = known (g.M.Machine.machine c.args.table.now.key) g.M.ListMachine.lists c.requires.at _ _ c.in-LoadLink.is c.requires.access in (c.requires.table, is.0.0, is.1, is.2)

pub load_link_step-word-requires-clause-access : goal.load_link_step-word-requires-clause-access
load_link_step-word-requires-clause-access g c =
    at_step (g.M.Machine.machine c.args.table.now.key) g.M.ListMachine.lists c.requires.at _ _ (known (g.M.Machine.machine c.args.table.now.key) g.M.ListMachine.lists c.requires.at _ _ c.in-LoadLink.is c.requires.access).0.1

pub returns-in-LoadLink-clause-made : goal.returns-in-LoadLink-clause-made
returns-in-LoadLink-clause-made g c =
    let s = c.load_link_step-word in loaded (g.M.Machine.machine c.args.table.now.key) g.M.ListMachine.lists c.requires.at s.new.seat.me (record { word = s.result; won = _ }) _ _ (known (g.M.Machine.machine c.args.table.now.key) g.M.ListMachine.lists c.requires.at _ _ c.in-LoadLink.is c.requires.access).0.2 refl s.ensures.seat.1 s.ensures.steps

pub store_link_step-requires-clause-table : goal.store_link_step-requires-clause-table
store_link_step-requires-clause-table g c =
    let is = known (g.M.Machine.machine c.args.table.now.key) g.M.ListMachine.lists c.requires.at _ _ c.in-StoreLink.is c.requires.access in (c.requires.table, is.0.0, is.1, is.2)

pub store_link_step-requires-clause-access : goal.store_link_step-requires-clause-access
store_link_step-requires-clause-access g c =
    at_step (g.M.Machine.machine c.args.table.now.key) g.M.ListMachine.lists c.requires.at _ _ (known (g.M.Machine.machine c.args.table.now.key) g.M.ListMachine.lists c.requires.at _ _ c.in-StoreLink.is c.requires.access).0.1

pub store_link_step-requires-clause-plain : goal.store_link_step-requires-clause-plain
store_link_step-requires-clause-plain g c =
    (known (g.M.Machine.machine c.args.table.now.key) g.M.ListMachine.lists c.requires.at _ _ c.in-StoreLink.is c.requires.access).3

pub returns-in-StoreLink-clause-made : goal.returns-in-StoreLink-clause-made
returns-in-StoreLink-clause-made g c =
    let s = c.store_link_step in stored (g.M.Machine.machine c.args.table.now.key) g.M.ListMachine.lists c.requires.at s.new.seat.me (record { word = c.in-StoreLink.word; won = _ }) _ _ _ (known (g.M.Machine.machine c.args.table.now.key) g.M.ListMachine.lists c.requires.at _ _ c.in-StoreLink.is c.requires.access).0.2 refl s.ensures.seat.1 s.ensures.steps

pub keep_link_step-requires-clause-table : goal.keep_link_step-requires-clause-table
keep_link_step-requires-clause-table g c =
    let is = known (g.M.Machine.machine c.args.table.now.key) g.M.ListMachine.lists c.requires.at _ _ c.in-KeepLink.is c.requires.access in (c.requires.table, is.0.0, is.1, is.2)

pub keep_link_step-requires-clause-access : goal.keep_link_step-requires-clause-access
keep_link_step-requires-clause-access g c =
    at_step (g.M.Machine.machine c.args.table.now.key) g.M.ListMachine.lists c.requires.at _ _ (known (g.M.Machine.machine c.args.table.now.key) g.M.ListMachine.lists c.requires.at _ _ c.in-KeepLink.is c.requires.access).0.1

pub keep_link_step-requires-clause-plain : goal.keep_link_step-requires-clause-plain
keep_link_step-requires-clause-plain g c =
    (known (g.M.Machine.machine c.args.table.now.key) g.M.ListMachine.lists c.requires.at _ _ c.in-KeepLink.is c.requires.access).3

pub returns-in-KeepLink-clause-made : goal.returns-in-KeepLink-clause-made
returns-in-KeepLink-clause-made g c =
    let s = c.keep_link_step in stored (g.M.Machine.machine c.args.table.now.key) g.M.ListMachine.lists c.requires.at s.new.seat.me (record { word = c.in-KeepLink.word; won = _ }) _ _ _ (known (g.M.Machine.machine c.args.table.now.key) g.M.ListMachine.lists c.requires.at _ _ c.in-KeepLink.is c.requires.access).0.2 refl s.ensures.seat.1 s.ensures.steps

pub take_first_step-won-requires-clause-table : goal.take_first_step-won-requires-clause-table
take_first_step-won-requires-clause-table g c =
    let is = known (g.M.Machine.machine c.args.table.now.key) g.M.ListMachine.lists c.requires.at _ _ c.in-Take.is c.requires.access in (c.requires.table, is.0.0, is.1)

pub take_first_step-won-requires-clause-access : goal.take_first_step-won-requires-clause-access
take_first_step-won-requires-clause-access g c =
    at_step (g.M.Machine.machine c.args.table.now.key) g.M.ListMachine.lists c.requires.at _ _ (known (g.M.Machine.machine c.args.table.now.key) g.M.ListMachine.lists c.requires.at _ _ c.in-Take.is c.requires.access).0.1

pub take_first_step-won-requires-clause-carries : goal.take_first_step-won-requires-clause-carries
take_first_step-won-requires-clause-carries g c =
    let is = known (g.M.Machine.machine c.args.table.now.key) g.M.ListMachine.lists c.requires.at _ _ c.in-Take.is c.requires.access in is.2

pub take_first_step-won-requires-clause-word : goal.take_first_step-won-requires-clause-word
take_first_step-won-requires-clause-word g c =
    let is = known (g.M.Machine.machine c.args.table.now.key) g.M.ListMachine.lists c.requires.at _ _ c.in-Take.is c.requires.access in (is.3, is.4, is.5)

pub returns-in-Take-clause-made : goal.returns-in-Take-clause-made
returns-in-Take-clause-made g c =
    let is = known (g.M.Machine.machine c.args.table.now.key) g.M.ListMachine.lists c.requires.at _ _ c.in-Take.is c.requires.access in let s = c.take_first_step-won in brought (g.M.Machine.machine c.args.table.now.key) g.M.ListMachine.lists c.requires.at s.new.seat.me _ _ _ _ is.0.2 (ap (λ (b : Bool). side b (change.Take c.in-Take.next)) is.2) s.ensures.won s.ensures.lost

pub take_bare_step-won-requires-clause-table : goal.take_bare_step-won-requires-clause-table
take_bare_step-won-requires-clause-table g c =
    let is = known (g.M.Machine.machine c.args.table.now.key) g.M.ListMachine.lists c.requires.at _ _ c.in-TakeBare.is c.requires.access in (c.requires.table, is.0.0, is.1)

pub take_bare_step-won-requires-clause-access : goal.take_bare_step-won-requires-clause-access
take_bare_step-won-requires-clause-access g c =
    at_step (g.M.Machine.machine c.args.table.now.key) g.M.ListMachine.lists c.requires.at _ _ (known (g.M.Machine.machine c.args.table.now.key) g.M.ListMachine.lists c.requires.at _ _ c.in-TakeBare.is c.requires.access).0.1

pub take_bare_step-won-requires-clause-carries : goal.take_bare_step-won-requires-clause-carries
take_bare_step-won-requires-clause-carries g c =
    let is = known (g.M.Machine.machine c.args.table.now.key) g.M.ListMachine.lists c.requires.at _ _ c.in-TakeBare.is c.requires.access in is.2

pub take_bare_step-won-requires-clause-word : goal.take_bare_step-won-requires-clause-word
take_bare_step-won-requires-clause-word g c =
    let is = known (g.M.Machine.machine c.args.table.now.key) g.M.ListMachine.lists c.requires.at _ _ c.in-TakeBare.is c.requires.access in (is.3, is.4, is.5)

pub returns-in-TakeBare-clause-made : goal.returns-in-TakeBare-clause-made
returns-in-TakeBare-clause-made g c =
    let is = known (g.M.Machine.machine c.args.table.now.key) g.M.ListMachine.lists c.requires.at _ _ c.in-TakeBare.is c.requires.access in let s = c.take_bare_step-won in stayed (g.M.Machine.machine c.args.table.now.key) g.M.ListMachine.lists c.requires.at s.new.seat.me _ _ _ _ is.0.2 (ap (λ (b : Bool). side b (change.Take c.in-TakeBare.next)) is.2) s.ensures.seat.1 s.ensures.won s.ensures.lost

pub take_all_step-won-requires-clause-table : goal.take_all_step-won-requires-clause-table
take_all_step-won-requires-clause-table g c =
    let is = known (g.M.Machine.machine c.args.table.now.key) g.M.ListMachine.lists c.requires.at _ _ c.in-TakeAll.is c.requires.access in (c.requires.table, is.0.0, is.1)

pub take_all_step-won-requires-clause-access : goal.take_all_step-won-requires-clause-access
take_all_step-won-requires-clause-access g c =
    at_step (g.M.Machine.machine c.args.table.now.key) g.M.ListMachine.lists c.requires.at _ _ (known (g.M.Machine.machine c.args.table.now.key) g.M.ListMachine.lists c.requires.at _ _ c.in-TakeAll.is c.requires.access).0.1

pub take_all_step-won-requires-clause-carries : goal.take_all_step-won-requires-clause-carries
take_all_step-won-requires-clause-carries g c =
    let is = known (g.M.Machine.machine c.args.table.now.key) g.M.ListMachine.lists c.requires.at _ _ c.in-TakeAll.is c.requires.access in is.2

pub take_all_step-won-requires-clause-word : goal.take_all_step-won-requires-clause-word
take_all_step-won-requires-clause-word g c =
    let is = known (g.M.Machine.machine c.args.table.now.key) g.M.ListMachine.lists c.requires.at _ _ c.in-TakeAll.is c.requires.access in is.3

pub returns-in-TakeAll-clause-made : goal.returns-in-TakeAll-clause-made
returns-in-TakeAll-clause-made g c =
    let is = known (g.M.Machine.machine c.args.table.now.key) g.M.ListMachine.lists c.requires.at _ _ c.in-TakeAll.is c.requires.access in let s = c.take_all_step-won in brought (g.M.Machine.machine c.args.table.now.key) g.M.ListMachine.lists c.requires.at s.new.seat.me _ _ _ _ is.0.2 (ap (λ (b : Bool). side b (change.TakeAll c.in-TakeAll.front)) is.2) s.ensures.won s.ensures.lost

pub give_one_step-won-requires-clause-table : goal.give_one_step-won-requires-clause-table
give_one_step-won-requires-clause-table g c =
    let is = known (g.M.Machine.machine c.args.table.now.key) g.M.ListMachine.lists c.requires.at _ _ c.in-Give.is c.requires.access in (c.requires.table, is.0.0, is.1)

pub give_one_step-won-requires-clause-access : goal.give_one_step-won-requires-clause-access
give_one_step-won-requires-clause-access g c =
    at_step (g.M.Machine.machine c.args.table.now.key) g.M.ListMachine.lists c.requires.at _ _ (known (g.M.Machine.machine c.args.table.now.key) g.M.ListMachine.lists c.requires.at _ _ c.in-Give.is c.requires.access).0.1

pub give_one_step-won-requires-clause-carries : goal.give_one_step-won-requires-clause-carries
give_one_step-won-requires-clause-carries g c =
    let is = known (g.M.Machine.machine c.args.table.now.key) g.M.ListMachine.lists c.requires.at _ _ c.in-Give.is c.requires.access in is.2

pub give_one_step-won-requires-clause-word : goal.give_one_step-won-requires-clause-word
give_one_step-won-requires-clause-word g c =
    let is = known (g.M.Machine.machine c.args.table.now.key) g.M.ListMachine.lists c.requires.at _ _ c.in-Give.is c.requires.access in (is.3, is.4)

pub give_one_step-won-requires-clause-fits : goal.give_one_step-won-requires-clause-fits
give_one_step-won-requires-clause-fits g c =
    let is = known (g.M.Machine.machine c.args.table.now.key) g.M.ListMachine.lists c.requires.at _ _ c.in-Give.is c.requires.access in fits_now (g.M.Machine.machine c.args.table.now.key) g.M.ListMachine.lists c.requires.at is.5

pub returns-in-Give-clause-made : goal.returns-in-Give-clause-made
returns-in-Give-clause-made g c =
    let is = known (g.M.Machine.machine c.args.table.now.key) g.M.ListMachine.lists c.requires.at _ _ c.in-Give.is c.requires.access in let s = c.give_one_step-won in returned (g.M.Machine.machine c.args.table.now.key) g.M.ListMachine.lists c.requires.at s.new.seat.me _ _ _ _ is.0.2 (ap (λ (b : Bool). side b (change.Give c.in-Give.index)) is.2) s.ensures.won s.ensures.lost

pub give_bare_step-won-requires-clause-table : goal.give_bare_step-won-requires-clause-table
give_bare_step-won-requires-clause-table g c =
    let is = known (g.M.Machine.machine c.args.table.now.key) g.M.ListMachine.lists c.requires.at _ _ c.in-GiveBare.is c.requires.access in (c.requires.table, is.0.0, is.1)

pub give_bare_step-won-requires-clause-access : goal.give_bare_step-won-requires-clause-access
give_bare_step-won-requires-clause-access g c =
    at_step (g.M.Machine.machine c.args.table.now.key) g.M.ListMachine.lists c.requires.at _ _ (known (g.M.Machine.machine c.args.table.now.key) g.M.ListMachine.lists c.requires.at _ _ c.in-GiveBare.is c.requires.access).0.1

pub give_bare_step-won-requires-clause-carries : goal.give_bare_step-won-requires-clause-carries
give_bare_step-won-requires-clause-carries g c =
    let is = known (g.M.Machine.machine c.args.table.now.key) g.M.ListMachine.lists c.requires.at _ _ c.in-GiveBare.is c.requires.access in is.2

pub give_bare_step-won-requires-clause-word : goal.give_bare_step-won-requires-clause-word
give_bare_step-won-requires-clause-word g c =
    let is = known (g.M.Machine.machine c.args.table.now.key) g.M.ListMachine.lists c.requires.at _ _ c.in-GiveBare.is c.requires.access in (is.3, is.4)

pub returns-in-GiveBare-clause-made : goal.returns-in-GiveBare-clause-made
returns-in-GiveBare-clause-made g c =
    let is = known (g.M.Machine.machine c.args.table.now.key) g.M.ListMachine.lists c.requires.at _ _ c.in-GiveBare.is c.requires.access in let s = c.give_bare_step-won in stayed (g.M.Machine.machine c.args.table.now.key) g.M.ListMachine.lists c.requires.at s.new.seat.me _ _ _ _ is.0.2 (ap (λ (b : Bool). side b (change.Give c.in-GiveBare.index)) is.2) s.ensures.seat.1 s.ensures.won s.ensures.lost

pub give_chain_step-won-requires-clause-table : goal.give_chain_step-won-requires-clause-table
give_chain_step-won-requires-clause-table g c =
    let is = known (g.M.Machine.machine c.args.table.now.key) g.M.ListMachine.lists c.requires.at _ _ c.in-GiveChain.is c.requires.access in (c.requires.table, is.0.0, is.1)

pub give_chain_step-won-requires-clause-access : goal.give_chain_step-won-requires-clause-access
give_chain_step-won-requires-clause-access g c =
    at_step (g.M.Machine.machine c.args.table.now.key) g.M.ListMachine.lists c.requires.at _ _ (known (g.M.Machine.machine c.args.table.now.key) g.M.ListMachine.lists c.requires.at _ _ c.in-GiveChain.is c.requires.access).0.1

pub give_chain_step-won-requires-clause-carries : goal.give_chain_step-won-requires-clause-carries
give_chain_step-won-requires-clause-carries g c =
    let is = known (g.M.Machine.machine c.args.table.now.key) g.M.ListMachine.lists c.requires.at _ _ c.in-GiveChain.is c.requires.access in is.2

pub give_chain_step-won-requires-clause-word : goal.give_chain_step-won-requires-clause-word
give_chain_step-won-requires-clause-word g c =
    let is = known (g.M.Machine.machine c.args.table.now.key) g.M.ListMachine.lists c.requires.at _ _ c.in-GiveChain.is c.requires.access in (is.3, is.4)

pub give_chain_step-won-requires-clause-fits : goal.give_chain_step-won-requires-clause-fits
give_chain_step-won-requires-clause-fits g c =
    let is = known (g.M.Machine.machine c.args.table.now.key) g.M.ListMachine.lists c.requires.at _ _ c.in-GiveChain.is c.requires.access in fits_now (g.M.Machine.machine c.args.table.now.key) g.M.ListMachine.lists c.requires.at is.5

pub returns-in-GiveChain-clause-made : goal.returns-in-GiveChain-clause-made
returns-in-GiveChain-clause-made g c =
    let is = known (g.M.Machine.machine c.args.table.now.key) g.M.ListMachine.lists c.requires.at _ _ c.in-GiveChain.is c.requires.access in let s = c.give_chain_step-won in returned (g.M.Machine.machine c.args.table.now.key) g.M.ListMachine.lists c.requires.at s.new.seat.me _ _ _ _ is.0.2 (ap (λ (b : Bool). side b (change.GiveChain c.in-GiveChain.first)) is.2) s.ensures.won s.ensures.lost

pub mark_step-won-requires-clause-table : goal.mark_step-won-requires-clause-table
mark_step-won-requires-clause-table g c =
    let is = known (g.M.Machine.machine c.args.table.now.key) g.M.ListMachine.lists c.requires.at _ _ c.in-Mark.is c.requires.access in (c.requires.table, is.0.0, is.1)

pub mark_step-won-requires-clause-access : goal.mark_step-won-requires-clause-access
mark_step-won-requires-clause-access g c =
    at_step (g.M.Machine.machine c.args.table.now.key) g.M.ListMachine.lists c.requires.at _ _ (known (g.M.Machine.machine c.args.table.now.key) g.M.ListMachine.lists c.requires.at _ _ c.in-Mark.is c.requires.access).0.1

pub returns-in-Mark-clause-made : goal.returns-in-Mark-clause-made
returns-in-Mark-clause-made g c =
    let is = known (g.M.Machine.machine c.args.table.now.key) g.M.ListMachine.lists c.requires.at _ _ c.in-Mark.is c.requires.access in let s = c.mark_step-won in stayed (g.M.Machine.machine c.args.table.now.key) g.M.ListMachine.lists c.requires.at s.new.seat.me _ _ _ _ is.0.2 (mark_stays (g.M.ListMachine.lists.layout.carries c.in-Mark.list)) s.ensures.seat.1 s.ensures.won s.ensures.lost

pub shut_step-won-requires-clause-table : goal.shut_step-won-requires-clause-table
shut_step-won-requires-clause-table g c =
    let is = known (g.M.Machine.machine c.args.table.now.key) g.M.ListMachine.lists c.requires.at _ _ c.in-Shut.is c.requires.access in (c.requires.table, is.0.0, is.1)

pub shut_step-won-requires-clause-access : goal.shut_step-won-requires-clause-access
shut_step-won-requires-clause-access g c =
    at_step (g.M.Machine.machine c.args.table.now.key) g.M.ListMachine.lists c.requires.at _ _ (known (g.M.Machine.machine c.args.table.now.key) g.M.ListMachine.lists c.requires.at _ _ c.in-Shut.is c.requires.access).0.1

pub returns-in-Shut-clause-made : goal.returns-in-Shut-clause-made
returns-in-Shut-clause-made g c =
    let is = known (g.M.Machine.machine c.args.table.now.key) g.M.ListMachine.lists c.requires.at _ _ c.in-Shut.is c.requires.access in let s = c.shut_step-won in stayed (g.M.Machine.machine c.args.table.now.key) g.M.ListMachine.lists c.requires.at s.new.seat.me _ _ _ _ is.0.2 (shut_stays (g.M.ListMachine.lists.layout.carries c.in-Shut.list)) s.ensures.seat.1 s.ensures.won s.ensures.lost
