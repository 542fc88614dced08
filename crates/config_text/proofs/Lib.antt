mod ConfigBack
mod GroupsBack
mod IdBack
mod PrintLemmas
mod PutLemmas
mod ReadBack
