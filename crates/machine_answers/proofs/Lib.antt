mod Fitting
mod Programs
