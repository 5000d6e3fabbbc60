mod Kept
mod Unopened
mod UnopenedLists
mod Saying
mod Telling
mod Lived
mod ListsLived
