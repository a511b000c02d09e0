mod Owning
mod Finding
mod Picking
